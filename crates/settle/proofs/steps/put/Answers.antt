-- `settle::steps::put` meets its contract: the six numbers are stored at the end. Assumes nothing.
use mathlib.Core.Path.{◌≡◌, refl}
use native.Mathlib.Omega.{arith}
use lib.ListN.{length}
use Rattle.laws.proofs.Tables.{part_stored}
use Rattle.item_writes.specs.Tables.{numbers_of}
use Rattle.settle.proofs.steps.put.Goals as goal

pub returns-in-Some : goal.returns-in-Some
unfolding numbers_of
returns-in-Some c =
    let n : length c.in-Some.six ≡ 6 = omega arith in
    rw c.in-Some.is (record { few = omega arith; end = omega arith; put = part_stored c.args.out.now _ c.in-Some.six c.args.at _ c.copy_from_slice.ensures.after (omega arith) (omega arith) })

pub returns-in-None : goal.returns-in-None
unfolding numbers_of
returns-in-None c = rw c.in-None.is (record { few = omega arith; end = omega arith; put = refl })
