-- `looked_up::cells_before` meets its contract: the cells counted and those of what is left are those of all. Assumes nothing.
use mathlib.Core.Path.{◌≡◌}
use Prim.Native.Nat.{◌+◌, ◌*◌, ◌≤◌}
use Rattle.looked_up.proofs.Numbers.{Cells}
use Rattle.looked_up.proofs.cells_before.Given as goal

abbrev pub invariant-loop-i : goal.invariant-loop-i
invariant-loop-i l = (l.sum ≤ l.i * 4294967296) × (Cells l.tape l.many 0 l.k ≡ l.sum + Cells l.tape l.many l.i l.left)
