-- `show_bad` meets its contract. Assumes nothing.
use native.Mathlib.Omega.{arith}
use Rattle.figures.proofs.Bytes.{bad_is, named}
use Rattle.input_bytes.proofs.stops.show_bad.Goals as goal

pub returns : goal.returns
returns c = named bad_is (omega arith) c.text.ensures
