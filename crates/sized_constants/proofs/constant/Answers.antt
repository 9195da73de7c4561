-- `sized_constants::constant` meets its contract. Assumes nothing.
use Rattle.std.proofs.Common.{arith, sym, ◌≤◌, ◌+◌, length}
use Rattle.sized_constants.specs.Constant.{constant_at}
use Rattle.sized_constants.proofs.Sized.{base_small, constant_none}
use Rattle.sized_constants.proofs.constant.Goals as goal
use Rattle.sized_constants.proofs.constant.Goals.{then-text-at-via-then-text-at, then-text-at-via-else-text-at+then-text-at-2}

pub returns-then-text-at : goal.returns-then-text-at
returns-then-text-at c =
    let over : length c.args.text.now ≤ c.args.at + 1 =
    elim c.then-text-at.branch [ then-text-at-via-then-text-at w ↦ omega arith | then-text-at-via-else-text-at+then-text-at-2 w ↦ omega arith ] in
    sym (constant_none _ _ over)

pub digits-requires : goal.digits-requires
digits-requires c = (omega arith, rw c.base.ensures (base_small _))

pub returns : goal.returns
unfolding constant_at
returns c = rw c.base.ensures at c.digits.ensures
