-- `part_lengths::over` meets its contract: the tables are the definition's, and their figures are small. Assumes nothing.
use Rattle.std.proofs.Common.{arith, sym, ◌∙◌}
use Rattle.language.specs.Words.{bytes}
use Rattle.part_lengths.specs.Parts.{holds_of, holds_table, own_of, own_table}
use Rattle.part_lengths.proofs.Figures.{holds_small, own_small}
use Rattle.part_lengths.proofs.Backs.{over_leads, over_follows}
use Rattle.part_lengths.proofs.over.Goals as goal

pub overflow_add-result : goal.overflow_add-result
unfolding holds_of holds_table bytes
overflow_add-result c = let h = holds_small c.args.op in let e = c.figure.ensures in omega arith

pub overflow_add-result-2 : goal.overflow_add-result-2
unfolding own_of own_table bytes
overflow_add-result-2 c = let h = own_small c.args.op in let e = c.figure-2.ensures in omega arith

pub returns-then-lead : goal.returns-then-lead
unfolding holds_of holds_table own_of own_table bytes
returns-then-lead c = over_leads c.args.part c.args.op c.args.place c.figure.ensures c.figure-2.ensures (sym c.lead.ensures ∙ c.if-lead.true)

pub returns-else-lead : goal.returns-else-lead
unfolding holds_of holds_table own_of own_table bytes
returns-else-lead c = over_follows c.args.part c.args.op c.args.place c.figure.ensures c.figure-2.ensures (sym c.lead.ensures ∙ c.if-lead.false)
