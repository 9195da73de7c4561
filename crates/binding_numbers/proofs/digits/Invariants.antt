-- `binding_numbers::digits` meets its contract: the digits that are left, after those read, give what all give. Assumes nothing.
use mathlib.Core.Path.{◌≡◌}
use Prim.Native.Nat.{◌≤◌}
use lib.ListN.{drop}
use Rattle.language.specs.Bindings.{digits_from}
use Rattle.binding_numbers.proofs.digits.Given as goal

abbrev pub invariant-loop-at : goal.invariant-loop-at
invariant-loop-at l = (l.n ≤ l.most) × (digits_from l.most l.n (drop l.at l.text) ≡ digits_from l.most l.first (drop l.from l.text))
