-- `main` ends, and reads and writes inside its tables. Assumes nothing.
use Rattle.std.proofs.Common.{◌≡◌, length}
use Rattle.tipirun.proofs.main.Given as goal

-- nothing waits to be written, and the table for it is as long as it was made
abbrev pub invariant-loop-turn : goal.invariant-loop-turn
invariant-loop-turn l = (l.s.at ≡ 0) × (length l.tables.out ≡ 32_768)
