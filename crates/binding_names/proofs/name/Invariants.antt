-- `binding_names::name` meets its contract: the name goes on from its bytes so far as it does from its start. Assumes nothing.
use mathlib.Core.Path.{◌≡◌}
use Prim.Native.Nat.{◌≤◌, ◌+◌}
use lib.ListN.{take, drop}
use Rattle.language.specs.Bindings.{name_from, fresh_name}
use Rattle.binding_names.specs.Names.{names_before}
use Rattle.binding_names.proofs.name.Given as goal

abbrev pub invariant-loop-n : goal.invariant-loop-n
invariant-loop-n l = (l.n ≤ 31) × (name_from (names_before l.text l.table l.k) (take l.n (drop l.from l.text)) (drop (l.from + l.n) l.text) ≡ fresh_name (names_before l.text l.table l.k) (drop l.from l.text))
