-- `rule_reader::groups` meets its contract. Assumes nothing.
use mathlib.Core.Path.{sym, ◌∙◌}
use Rattle.readers.proofs.Fixed.{s_or}
use Rattle.readers.proofs.Laws.{same_err}
use Rattle.readers.proofs.Lists.{list_more, list_fault, list_ends}
use Rattle.rule_reader.proofs.Ruled.{is_begins, is_misses}
use Rattle.rule_reader.proofs.groups.Goals as goal

pub returns-in_err-x : goal.returns-in_err-x
returns-in_err-x c = rw (same_err c.from_residual.ensures.1) (list_fault c.loop-items.invariant (is_begins s_or (sym c.kind.ensures.is ∙ c.loop-items-test.true)) c.in_err-x.ensures)

pub loop-items-preserved : goal.loop-items-preserved
loop-items-preserved c = list_more c.loop-items.invariant (is_begins s_or (sym c.kind.ensures.is ∙ c.loop-items-test.true)) c.in_ok-x.ensures

pub returns : goal.returns
returns c = list_ends c.loop-items.invariant (is_misses s_or (λ q. c.loop-items-test.false (c.kind.ensures.is ∙ q)))
