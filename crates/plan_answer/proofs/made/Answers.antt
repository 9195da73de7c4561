-- `made` meets its contract. Assumes nothing.
use native.Mathlib.Omega.{arith}
use Prim.Native.Nat.{◌*◌}
use lib.ListN.{take}
use Rattle.std.proofs.Common.{length-take}
use Rattle.section_items.specs.Items.{items_of}
use Rattle.plan_answer.proofs.Saying.{made_said, made_tabled}
use Rattle.plan_answer.proofs.made.Goals as goal

pub made-requires : goal.made-requires
made-requires c =
    let pre = c.requires in
    record { few = omega (arith, pre.0, length-take (6 * c.args.many) c.args.items.now); code_few = omega (arith, pre.4, length-take c.total.result c.args.code.now) }

pub returns : goal.returns
returns c =
    let args = c.args in
    let i = items_of (take (6 * args.many) args.items.now) in record {
      answer = made_said i args.code.now args.lengths.now args.plan.now c.total.ensures c.made.ensures.answer c.ok_or.ensures.value;
      table = made_tabled i args.code.now args.lengths.now args.plan.now c.total.ensures c.made.ensures.table;
    }
