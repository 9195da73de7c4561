-- `looked_up::number` meets its contract: what is left of the items answers as all of them. Assumes nothing.
use mathlib.Core.Path.{◌≡◌}
use Prim.Native.Nat.{◌+◌, ◌≤◌}
use Rattle.looked_up.proofs.Numbers.{From}
use Rattle.looked_up.proofs.number.Given as goal

abbrev pub invariant-loop-i : goal.invariant-loop-i
invariant-loop-i l = (l.k ≤ l.i) × (From l.text l.tape l.op l.many l.called 0 ≡ l.k + From l.text l.tape l.op l.many l.called l.i)
