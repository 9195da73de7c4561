-- `part_lengths::word_after` meets its contract: what is left of the words gives the same place. Assumes nothing.
use Rattle.std.proofs.Common.{◌≡◌}
use Rattle.part_lengths.specs.Parts.{places_in, after_in}
use Rattle.part_lengths.proofs.Backs.{Left}
use Rattle.part_lengths.proofs.word_after.Given as goal

abbrev pub invariant-loop-i : goal.invariant-loop-i
invariant-loop-i l = (after_in (places_in l.table 0 l.many) l.place l.more ≡ Left l.table l.many l.place l.more l.i)
