-- `numbers` meets its contract: what is left is written after what was. Assumes nothing.
use Prim.Native.Nat.{◌*◌}
use lib.ListN.{length, drop}
use Rattle.figures.specs.Written.{blanked}
use Rattle.figures.proofs.Bytes.{Rest}
use Rattle.input_bytes.proofs.stops.numbers.Given as goal

abbrev pub invariant-loop-n : goal.invariant-loop-n
invariant-loop-n l = Rest l.initial.out l.at (blanked l.all) (21 * length l.all) l.out l.k (blanked (drop l.n-index l.all)) (21 * length (drop l.n-index l.all))
