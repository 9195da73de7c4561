-- `part_lengths::whole` meets its contract: what is left of the items gives the same part. Assumes nothing.
use Rattle.part_lengths.proofs.Backs.{Gone}
use Rattle.part_lengths.proofs.whole.Given as goal

abbrev pub invariant-loop-i : goal.invariant-loop-i
invariant-loop-i l = Gone l.tape l.end l.i l.part
