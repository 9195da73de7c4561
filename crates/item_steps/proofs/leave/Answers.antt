-- `leave` meets its contract. Assumes nothing.
use native.Mathlib.Omega.{arith}
use mathlib.Core.Path.{sym, ◌∙◌}
use mathlib.Core.Logic.{inl, inr}
use mathlib.Core.Bool.{false≢true}
use Rattle.item_steps.proofs.Leaves.{pick_first, pick_second}
use Rattle.item_steps.proofs.leave.Goals.{then-holds, else-holds}
use Rattle.item_steps.proofs.leave.Goals as goal

pub put-requires : goal.put-requires
put-requires c =
    let pre = c.requires in
    (rw c.in-Const.is at pre.2.1.there, rw c.in-Const.is at pre.2.1.room)

pub slot-requires : goal.slot-requires
slot-requires c = rw c.in-Port.is at c.requires.2.1.asks

pub put-requires-in-Port : goal.put-requires-in-Port
put-requires-in-Port c =
    let pre = c.requires in
    (rw c.in-Port.is at pre.2.1.there, rw c.in-Port.is at pre.2.1.room)

pub slot-requires-in-Let : goal.slot-requires-in-Let
slot-requires-in-Let c = rw c.in-Let.is at c.requires.2.1.asks

pub put-requires-in-Let : goal.put-requires-in-Let
put-requires-in-Let c =
    let pre = c.requires in
    (rw c.in-Let.is at pre.2.1.there, rw c.in-Let.is at pre.2.1.room)

pub last-requires : goal.last-requires
last-requires c =
    let pre = c.requires in
    let h = rw c.in-Cell.is at pre.2.1.there in
    (omega (arith, h), omega (arith, pre.0))

pub cell-requires : goal.cell-requires
cell-requires c = rw c.in-Cell.is at c.requires.2.1.asks

pub put-requires-in-Cell : goal.put-requires-in-Cell
put-requires-in-Cell c =
    let pre = c.requires in
    (rw c.in-Cell.is at pre.2.1.there, rw c.in-Cell.is at pre.2.1.room)

pub last-requires-in-Range : goal.last-requires-in-Range
last-requires-in-Range c =
    let pre = c.requires in
    let h = rw c.in-Range.is at pre.2.1.there in
    (omega (arith, h), omega (arith, pre.0))

pub range-requires : goal.range-requires
range-requires c = rw c.in-Range.is at c.requires.2.1.asks

pub put-requires-in-Range : goal.put-requires-in-Range
put-requires-in-Range c =
    let pre = c.requires in
    (rw c.in-Range.is at pre.2.1.there, rw c.in-Range.is at pre.2.1.room)

pub last-requires-in-Copies : goal.last-requires-in-Copies
last-requires-in-Copies c =
    let pre = c.requires in
    let h = rw c.in-Copies.is at pre.2.1.there in
    (omega (arith, h), omega (arith, pre.0))

pub copies-requires : goal.copies-requires
copies-requires c =
    let pre = c.requires in
    rw c.last-in-Copies.ensures (rw c.in-Copies.is at pre.2.1.asks)

pub put-requires-in-Copies : goal.put-requires-in-Copies
put-requires-in-Copies c =
    let pre = c.requires in
    (rw c.in-Copies.is at pre.2.1.there, rw c.in-Copies.is at pre.2.1.room)

pub last-requires-in-Beside : goal.last-requires-in-Beside
last-requires-in-Beside c =
    let pre = c.requires in
    let h = rw c.in-Beside.is at pre.2.1.there in
    (omega (arith, h), omega (arith, pre.0))

pub last-requires-in-Beside-2 : goal.last-requires-in-Beside-2
last-requires-in-Beside-2 c =
    let pre = c.requires in
    let h = rw c.in-Beside.is at pre.2.1.there in
    (omega (arith, h), omega (arith, pre.0))

pub beside-requires : goal.beside-requires
beside-requires c =
    let pre = c.requires in
    rw (c.last-in-Beside.ensures, c.last-in-Beside-2.ensures) (rw c.in-Beside.is at pre.2.1.asks)

pub put-requires-in-Beside : goal.put-requires-in-Beside
put-requires-in-Beside c =
    let pre = c.requires in
    (rw c.in-Beside.is at pre.2.1.there, rw c.in-Beside.is at pre.2.1.room)

pub last-requires-in-Before : goal.last-requires-in-Before
last-requires-in-Before c =
    let pre = c.requires in
    let h = rw c.in-Before.is at pre.2.1.there in
    (omega (arith, h), omega (arith, pre.0))

pub unary-requires : goal.unary-requires
unary-requires c =
    let pre = c.requires in
    rw c.last-in-Before.ensures (rw c.in-Before.is at pre.2.1.asks)

pub put-requires-in-Before : goal.put-requires-in-Before
put-requires-in-Before c =
    let pre = c.requires in
    (rw c.in-Before.is at pre.2.1.there, rw c.in-Before.is at pre.2.1.room)

pub last-requires-in-Between : goal.last-requires-in-Between
last-requires-in-Between c =
    let pre = c.requires in
    let h = rw c.in-Between.is at pre.2.1.there in
    (omega (arith, h), omega (arith, pre.0))

pub last-requires-in-Between-2 : goal.last-requires-in-Between-2
last-requires-in-Between-2 c =
    let pre = c.requires in
    let h = rw c.in-Between.is at pre.2.1.there in
    (omega (arith, h), omega (arith, pre.0))

pub binary-requires : goal.binary-requires
binary-requires c =
    let pre = c.requires in
    rw (c.last-in-Between.ensures, c.last-in-Between-2.ensures) (rw c.in-Between.is at pre.2.1.asks)

pub put-requires-in-Between : goal.put-requires-in-Between
put-requires-in-Between c =
    let pre = c.requires in
    (rw c.in-Between.is at pre.2.1.there, rw c.in-Between.is at pre.2.1.room)

pub last-requires-in-Choice : goal.last-requires-in-Choice
last-requires-in-Choice c =
    let pre = c.requires in
    let h = rw c.in-Choice.is at pre.2.1.there in
    (omega (arith, h), omega (arith, pre.0))

pub last-requires-in-Choice-2 : goal.last-requires-in-Choice-2
last-requires-in-Choice-2 c =
    let pre = c.requires in
    let h = rw c.in-Choice.is at pre.2.1.there in
    (omega (arith, h), omega (arith, pre.0))

pub last-requires-in-Choice-3 : goal.last-requires-in-Choice-3
last-requires-in-Choice-3 c =
    let pre = c.requires in
    let h = rw c.in-Choice.is at pre.2.1.there in
    (omega (arith, h), omega (arith, pre.0))

pub put-requires-in-Choice : goal.put-requires-in-Choice
put-requires-in-Choice c =
    let pre = c.requires in
    (rw c.in-Choice.is at pre.2.1.there, rw c.in-Choice.is at pre.2.1.room)

pub holds-requires : goal.holds-requires
holds-requires c = rw c.in-Arm.is at c.requires.2.1.asks

pub last-x-requires : goal.last-x-requires
last-x-requires c =
    let pre = c.requires in
    let h = rw c.in-Arm.is at pre.2.1.there in
    (omega (arith, h), omega (arith, pre.0))

pub last-y-requires : goal.last-y-requires
last-y-requires c =
    let pre = c.requires in
    let h = rw c.in-Arm.is at pre.2.1.there in
    (omega (arith, h), omega (arith, pre.0))

pub put-requires-in-Arm : goal.put-requires-in-Arm
put-requires-in-Arm c =
    let pre = c.requires in
    (rw c.in-Arm.is at pre.2.1.there, rw c.in-Arm.is at pre.2.1.room)

pub returns-in-Const : goal.returns-in-Const
returns-in-Const c = record {
  upper_bound = c.put.ensures.0;
  result_after = rw c.in-Const.is (c.put.ensures.1 ∙ rw c.constant.ensures);
}

pub returns-in-Port : goal.returns-in-Port
returns-in-Port c = record {
  upper_bound = c.put-in-Port.ensures.0;
  result_after = rw c.in-Port.is (c.put-in-Port.ensures.1 ∙ rw c.slot.ensures);
}

pub returns-in-Let : goal.returns-in-Let
returns-in-Let c = record {
  upper_bound = c.put-in-Let.ensures.0;
  result_after = rw c.in-Let.is (c.put-in-Let.ensures.1 ∙ rw c.slot-in-Let.ensures);
}

pub returns-in-Cell : goal.returns-in-Cell
returns-in-Cell c = record {
  upper_bound = c.put-in-Cell.ensures.0;
  result_after = rw c.in-Cell.is (c.put-in-Cell.ensures.1 ∙ rw (c.cell.ensures, c.last.ensures));
}

pub returns-in-Range : goal.returns-in-Range
returns-in-Range c = record {
  upper_bound = c.put-in-Range.ensures.0;
  result_after = rw c.in-Range.is (c.put-in-Range.ensures.1 ∙ rw (c.range.ensures, c.last-in-Range.ensures));
}

pub returns-in-Copies : goal.returns-in-Copies
returns-in-Copies c = record {
  upper_bound = c.put-in-Copies.ensures.0;
  result_after = rw c.in-Copies.is (c.put-in-Copies.ensures.1 ∙ rw (c.copies.ensures, c.last-in-Copies.ensures));
}

pub returns-in-Beside : goal.returns-in-Beside
returns-in-Beside c = record {
  upper_bound = c.put-in-Beside.ensures.0;
  result_after = rw c.in-Beside.is (c.put-in-Beside.ensures.1 ∙ rw (c.beside.ensures, c.last-in-Beside.ensures, c.last-in-Beside-2.ensures));
}

pub returns-in-Before : goal.returns-in-Before
returns-in-Before c = record {
  upper_bound = c.put-in-Before.ensures.0;
  result_after = rw c.in-Before.is (c.put-in-Before.ensures.1 ∙ rw (c.unary.ensures, c.last-in-Before.ensures));
}

pub returns-in-Between : goal.returns-in-Between
returns-in-Between c = record {
  upper_bound = c.put-in-Between.ensures.0;
  result_after = rw c.in-Between.is (c.put-in-Between.ensures.1 ∙ rw (c.binary.ensures, c.last-in-Between.ensures, c.last-in-Between-2.ensures));
}

pub returns-in-Choice : goal.returns-in-Choice
returns-in-Choice c = record {
  upper_bound = c.put-in-Choice.ensures.0;
  result_after = rw c.in-Choice.is (c.put-in-Choice.ensures.1 ∙ rw (c.chosen.ensures, c.last-in-Choice.ensures, c.last-in-Choice-2.ensures, c.last-in-Choice-3.ensures));
}

pub returns-after-holds : goal.returns-after-holds
returns-after-holds c = record {
  upper_bound = c.put-in-Arm.ensures.0;
  result_after = rw c.in-Arm.is (c.put-in-Arm.ensures.1 ∙ elim c.if-holds.branch [
    | then-holds w ↦ rw (w.put-is, c.last-x.ensures, pick_first _ _ (sym c.holds.ensures ∙ w.if-holds.true))
    | else-holds w ↦ rw (w.put-is, c.last-y.ensures, pick_second _ _ (sym c.holds.ensures ∙ w.if-holds.false))
  ]);
}

-- an item that acts leaves no value, and a sound rule has no bad one
pub returns-in-Keep : goal.returns-in-Keep
returns-in-Keep c =
    absurd (elim c.in-Keep.is [
      | inl x ↦ false≢true (sym (rw x.2 at c.requires.1))
      | inr (inl x) ↦ false≢true (sym (rw x.1 at c.requires.1))
      | inr (inr (inl x)) ↦ false≢true (sym (rw x.3 at c.requires.1))
      | inr (inr (inr e)) ↦ rw e at c.requires.2.1.asks
    ])
