-- `section_items::rules` meets its contract: the rules passed, and those to come before the next group, are all. Assumes nothing.
use Rattle.std.proofs.Common.{◌+◌, ◌*◌, arith}
use Rattle.section_items.proofs.Items.{rules_group, rules_here, rules_past, rules_end}
use Rattle.section_items.proofs.rules.Goals as goal
use Rattle.section_items.proofs.rules.Goals.{in-39, in_default}

pub returns-in-41 : goal.returns-in-41
returns-in-41 c =
    let at = 6 * c.loop-i.i in
    omega (arith, rules_group c.args.items.now at (at + 6) (omega arith) (omega arith) c.in-41.is)

pub loop-i-preserved : goal.loop-i-preserved
loop-i-preserved c =
    let t = c.args.items.now in
    let at = 6 * c.loop-i.i in
    let next = 6 * (c.loop-i.i + 1) in
    elim c.match-items-i.branch [
      | in-39 w ↦ (omega arith, omega (arith, rules_here t at next (omega arith) (omega arith) w.in-39.is))
      | in_default w ↦ (omega arith, omega (arith, rules_past t at next (omega arith) (omega arith) (omega arith) (omega arith)))
    ]

pub returns : goal.returns
returns c = omega (arith, rules_end c.args.items.now (6 * c.loop-i.i) (omega arith))
