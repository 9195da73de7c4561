-- `words::earlier` meets its contract. Assumes nothing.
use Rattle.std.proofs.Common.{Some, refl, ap}
use Rattle.words.specs.Found.{earlier_of}
use Rattle.words.proofs.earlier.Goals as goal

pub returns-in-Some : goal.returns-in-Some
unfolding earlier_of
returns-in-Some c = rw c.in-Some.is (ap Some c.min.ensures)

pub returns-in-None : goal.returns-in-None
unfolding earlier_of
returns-in-None c = rw c.in-None.is refl
