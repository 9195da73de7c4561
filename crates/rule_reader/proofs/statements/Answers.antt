-- `rule_reader::statements` meets its contract. Assumes nothing.
use mathlib.Core.Path.{sym, ◌∙◌}
use native.Mathlib.Omega.{arith}
use Rattle.readers.proofs.Laws.{same_err}
use Rattle.readers.proofs.Lists.{list_more, list_fault, list_ends}
use Rattle.rule_reader.proofs.Ruled.{name_statement, let_statement, start_misses}
use Rattle.rule_reader.proofs.statements.Goals as goal

pub returns-in_err-x-in-2 : goal.returns-in_err-x-in-2
returns-in_err-x-in-2 c = let v = name_statement (sym c.kind.ensures.is ∙ c.in-2.is) c.in_err-x-in-2.ensures in rw (same_err c.from_residual.ensures.1) (list_fault c.loop-items.invariant v.begins v.item)

pub returns-in_err-x-in-10 : goal.returns-in_err-x-in-10
returns-in_err-x-in-10 c = let v = let_statement (sym c.kind.ensures.is ∙ c.in-10.is) c.in_err-x-in-10.ensures in rw (same_err c.from_residual-in_err-x-in-10.ensures.1) (list_fault c.loop-items.invariant v.begins v.item)

pub returns-in_default : goal.returns-in_default
returns-in_default c = list_ends c.loop-items.invariant (start_misses (λ q. omega (arith, c.kind.ensures.is ∙ q)) (λ q. omega (arith, c.kind.ensures.is ∙ q)))

pub loop-items-preserved-in_ok-x-in-2 : goal.loop-items-preserved-in_ok-x-in-2
loop-items-preserved-in_ok-x-in-2 c = let v = name_statement (sym c.kind.ensures.is ∙ c.in-2.is) c.in_ok-x-in-2.ensures in list_more c.loop-items.invariant v.begins v.item

pub loop-items-preserved : goal.loop-items-preserved
loop-items-preserved c = let v = let_statement (sym c.kind.ensures.is ∙ c.in-10.is) c.in_ok-x-in-10.ensures in list_more c.loop-items.invariant v.begins v.item
