-- `looked_up::count` meets its contract: the items counted and those of what is left are all. Assumes nothing.
use mathlib.Core.Path.{◌≡◌}
use mathlib.Core.List.{List}
use Prim.Native.Nat.{ℕ, ◌+◌, ◌≤◌}
use Rattle.looked_up.proofs.Numbers.{Many}
use Rattle.looked_up.proofs.count.Given as goal

abbrev pub invariant-loop-i : goal.invariant-loop-i
invariant-loop-i l = (l.k ≤ l.i) × ((text : List ℕ) → Many text l.tape l.op l.many 0 ≡ l.k + Many text l.tape l.op l.many l.i)
