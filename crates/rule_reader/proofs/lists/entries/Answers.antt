-- `rule_reader::lists::entries` meets its contract. Assumes nothing.
use mathlib.Core.Path.{sym, ◌∙◌}
use Rattle.readers.proofs.Commas.{commas_turn, commas_end, commas_bad}
use Rattle.readers.proofs.Laws.{same_err}
use Rattle.rule_reader.proofs.lists.entries.Goals as goal

pub returns-in_err-x : goal.returns-in_err-x
returns-in_err-x c = rw (same_err c.from_residual.ensures.1) (commas_bad c.loop-x.invariant c.in_err-x.ensures)

pub returns-then-kind-ne-COMMA : goal.returns-then-kind-ne-COMMA
returns-then-kind-ne-COMMA c = commas_end c.loop-x.invariant c.in_ok-x.ensures (λ q. c.if-kind-ne-COMMA.true (c.kind.ensures.is ∙ q))

pub loop-x-preserved : goal.loop-x-preserved
loop-x-preserved c = commas_turn c.loop-x.invariant c.in_ok-x.ensures (sym c.kind.ensures.is ∙ c.if-kind-ne-COMMA.false)
