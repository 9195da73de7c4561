-- `row13_plan::put_section` meets its contract: what the items to come give, put after what stands, makes the whole section. Assumes nothing.
use native.Mathlib.Omega.{arith}
use lib.ListN.{length-set}
use Rattle.row13_plan.proofs.Turns.{turn_start, turn_as, turn_past, turn_room, turn_more, section_room, section_put}
use Rattle.row13_plan.proofs.put_section.Goals as goal
use Rattle.row13_plan.proofs.put_section.Goals.{then-items-i, else-items-i}

pub bounds-plan-from : goal.bounds-plan-from
bounds-plan-from c =
    let args = c.args in
    let pre = c.requires in
    omega (arith, section_room args.section args.items.now args.lengths.now c.mark-op.ensures args.from pre.n_in_bounds)

pub loop-i-init : goal.loop-i-init
loop-i-init c = (omega arith, turn_start)

pub put_item-at-requires : goal.put_item-at-requires
put_item-at-requires c =
    let pre = c.requires in
    let args = c.args in
    let mark = c.mark-op in
    let count = c.count in
    let loop = c.loop-i in record {
      few = pre.few;
      i_bound = (
        omega arith,
        turn_room loop.invariant.1 (omega arith) c.if-items-i.true
            (omega (
              arith,
              section_room args.section args.items.now args.lengths.now mark.ensures args.from pre.n_in_bounds,
              loop.invariant.1.long,
              length-set args.plan.now args.from count.result,
            )),
      );
    }

pub loop-i-preserved : goal.loop-i-preserved
loop-i-preserved c =
    let pre = c.requires in
    let loop = c.loop-i in
    elim c.if-items-i.branch [
      | then-items-i w ↦ (omega arith, turn_as w.plan-is w.at-is w.k-is (omega arith) (turn_more loop.invariant.1 (omega arith) w.if-items-i.true w.put_item-at.ensures))
      | else-items-i w ↦ (omega arith, turn_as w.plan-is w.at-is w.k-is (omega arith) (turn_past loop.invariant.1 (omega arith) w.if-items-i.false))
    ]

pub shape_of-plan : goal.shape_of-plan
shape_of-plan c = omega (arith, c.loop-i.invariant.1.long, length-set c.args.plan.now c.args.from c.count.result)

pub returns : goal.returns
returns c =
    let args = c.args in
    let pre = c.requires in
    let mark = c.mark-op in
    section_put args.section args.items.now args.lengths.now mark.ensures c.count.ensures.0
    c.loop-i.invariant.1 (omega arith)
