-- `text` meets its contract: the bytes passed stand in their place. Assumes nothing.
use Rattle.std.proofs.Common.{refl, arith}
use Rattle.figures.proofs.Bytes.{written}
use Rattle.figures.proofs.numbers.text.Goals as goal

pub returns : goal.returns
returns c = record { place = refl; bytes = written _ _ _ _ _ (c.copy_from_slice.ensures.after) (omega arith) (omega arith); short = omega arith }
