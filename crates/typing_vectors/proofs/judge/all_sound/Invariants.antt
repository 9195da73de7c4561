-- `typing_vectors::judge::all_sound` meets its contract: the types so far. Assumes nothing.
use lib.ListN.{length}
use Rattle.typing_vectors.proofs.Listing.{Upto}
use Rattle.typing_vectors.proofs.judge.all_sound.Given as goal

abbrev pub invariant-loop-i : goal.invariant-loop-i
invariant-loop-i l = Upto l.code l.starts l.ends (length l.starts) l.i
