-- `section_items::put_item` meets its contract, section by section. Assumes nothing.
use Rattle.std.proofs.Common.{ℕ, List, ◌+◌, ◌%◌, ◌^◌, ap, ◌∙◌, length, arith, length-set}
use Rattle.section_items.specs.Items.{items_of, rules_up_to, mask_up_to}
use Rattle.section_items.proofs.Items.{rest}
use Rattle.section_items.proofs.Sections.{width_as, put_port, put_memory, put_group, put_rule}
use Rattle.section_items.proofs.put_item.Goals as goal

pub bounds-plan-at : goal.bounds-plan-at
bounds-plan-at c = omega (arith, width_as c.args.at (length c.args.plan.now) c.in-Ports.is c.requires.i_bound.1)

pub bounds-plan-at-in-Memories : goal.bounds-plan-at-in-Memories
bounds-plan-at-in-Memories c = omega (arith, width_as c.args.at (length c.args.plan.now) c.in-Memories.is c.requires.i_bound.1)

pub bounds-plan-at-in-Memories-2 : goal.bounds-plan-at-in-Memories-2
bounds-plan-at-in-Memories-2 c = simp length-set (omega (arith, width_as c.args.at (length c.args.plan.now) c.in-Memories.is c.requires.i_bound.1))

pub bounds-plan-at-in-Groups : goal.bounds-plan-at-in-Groups
bounds-plan-at-in-Groups c = omega (arith, width_as c.args.at (length c.args.plan.now) c.in-Groups.is c.requires.i_bound.1)

pub bounds-plan-at-in-Rules : goal.bounds-plan-at-in-Rules
bounds-plan-at-in-Rules c = omega (arith, width_as c.args.at (length c.args.plan.now) c.in-Rules.is c.requires.i_bound.1)

pub bounds-plan-at-in-Rules-2 : goal.bounds-plan-at-in-Rules-2
bounds-plan-at-in-Rules-2 c = simp length-set (omega (arith, width_as c.args.at (length c.args.plan.now) c.in-Rules.is c.requires.i_bound.1))

pub bounds-plan-at-in-Rules-3 : goal.bounds-plan-at-in-Rules-3
bounds-plan-at-in-Rules-3 c = simp length-set (omega (arith, width_as c.args.at (length c.args.plan.now) c.in-Rules.is c.requires.i_bound.1))

pub returns-in-Ports : goal.returns-in-Ports
returns-in-Ports c = put_port _ _ _ _ _ _ c.in-Ports.is

pub returns-in-Memories : goal.returns-in-Memories
returns-in-Memories c = put_memory _ _ _ _ _ _ c.in-Memories.is

pub returns-in-Groups : goal.returns-in-Groups
returns-in-Groups c = put_group _ _ _ _ _ _ c.in-Groups.is (c.rules.ensures ∙ ap (λ (l : List ℕ). rules_up_to (items_of l)) (rest c.args.items.now (c.args.i + 6)))

pub returns-in-Rules : goal.returns-in-Rules
returns-in-Rules c =
    let r = rest c.args.items.now (c.args.i + 6) in
    put_rule _ _ _ _ _ _ c.in-Rules.is (c.mask.ensures ∙ ap (λ (l : List ℕ). mask_up_to 1 (items_of l) % 2 ^ 32) r) (c.mask-in-Rules.ensures ∙ ap (λ (l : List ℕ). mask_up_to 0 (items_of l) % 2 ^ 32) r) c.length_at.ensures
