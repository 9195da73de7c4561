-- `looked_up::size_of` meets its contract: what is left of the items answers as all of them. Assumes nothing.
use mathlib.Core.Path.{◌≡◌}
use Rattle.looked_up.proofs.Numbers.{Size}
use Rattle.looked_up.proofs.size_of.Given as goal

abbrev pub invariant-loop-i : goal.invariant-loop-i
invariant-loop-i l = Size l.tape l.many 0 l.k ≡ Size l.tape l.many l.i l.left
