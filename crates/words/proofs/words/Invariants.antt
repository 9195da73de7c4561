-- `words::words` meets its contract: what is left of the text, read from here after the words so far, gives what all gives. Assumes nothing.
use mathlib.Core.Path.{◌≡◌}
use Prim.Native.Nat.{◌-◌}
use lib.ListN.{length}
use Rattle.words.proofs.Whole.{Reading}
use Rattle.words.proofs.words.Given as goal

abbrev pub invariant-loop-at : goal.invariant-loop-at
invariant-loop-at l = (length l.table ≡ length l.initial.table) × Reading l.text l.initial.table l.table l.at l.i

abbrev pub decreases-loop-at : goal.decreases-loop-at
decreases-loop-at l = length l.text - l.at
