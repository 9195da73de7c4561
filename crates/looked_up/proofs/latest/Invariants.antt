-- `looked_up::latest` meets its contract: what is left of the items answers as all of them. Assumes nothing.
use mathlib.Core.Path.{◌≡◌}
use Prim.Native.Nat.{◌+◌, ◌-◌, ◌≤◌}
use Rattle.looked_up.proofs.Numbers.{Before}
use Rattle.looked_up.proofs.latest.Given as goal

abbrev pub invariant-loop-i : goal.invariant-loop-i
invariant-loop-i l = (l.k ≤ l.to - l.i) × (Before l.text l.tape l.from l.called l.to ≡ l.k + Before l.text l.tape l.from l.called l.i)
