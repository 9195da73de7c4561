-- `first_word::quote` meets its contract. Assumes nothing.
use mathlib.Core.Path.{sym, ◌∙◌}
use Rattle.spans.specs.Spans.{test_of}
use Rattle.first_word.proofs.Parts.{quote_other, quote_unnamed, quote_named}
use Rattle.first_word.proofs.quote.Goals.{else-base-eq10-via-then-base-eq10+else-named, else-base-eq10-via-else-base-eq10}
use Rattle.first_word.proofs.quote.Goals as goal

pub returns-then-named : goal.returns-then-named
unfolding test_of
returns-then-named c = quote_named _ c.args.at c.if-text-at.false _ c.span-n.result c.base-base.ensures c.span-n.ensures.1 c.if-n-gt0.false c.if-base-eq10.true (sym c.named.ensures ∙ c.if-named.true)

pub returns-else-base-eq10 : goal.returns-else-base-eq10
unfolding test_of
returns-else-base-eq10 c =
    elim c.else-base-eq10.branch [
      | else-base-eq10-via-then-base-eq10+else-named w ↦ quote_unnamed _ c.args.at c.if-text-at.false _ c.span-n.result c.base-base.ensures c.span-n.ensures.1 c.if-n-gt0.false (sym w.named.ensures ∙ w.if-named.false)
      | else-base-eq10-via-else-base-eq10 w ↦ quote_other _ c.args.at c.if-text-at.false _ c.span-n.result c.base-base.ensures c.span-n.ensures.1 c.if-n-gt0.false w.if-base-eq10.false
    ]
