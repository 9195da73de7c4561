-- `first` meets its contract: each row answers as its definition, and the first that refuses decides. Assumes nothing.
use Rattle.std.proofs.Common.{sym, ap, ◌∙◌}
use Rattle.language.specs.Reading.{judged}
use Rattle.early_rows.specs.Verdicts.{verdict_of}
use Rattle.early_rows.proofs.Rows.{refused, stops_at_law, goes_on_law, ends_law}
use Rattle.early_rows.proofs.first.Goals as goal

pub fault-requires : goal.fault-requires
fault-requires c = c.requires.n_in_bounds

pub returns-in_err-passes : goal.returns-in_err-passes
unfolding judged
returns-in_err-passes c = λ ws a b h.
    refused c.from_residual.result _ c.from_residual.ensures.1
    ∙ sym (stops_at_law _ _ _ _ (c.fault.ensures ws a h.tells) c.passes.ensures c.in_err-passes.was)

pub returns-in_err-passes-2 : goal.returns-in_err-passes-2
unfolding judged
returns-in_err-passes-2 c = λ ws a b h.
    refused c.from_residual-in_err-passes-2.result _ c.from_residual-in_err-passes-2.ensures.1
    ∙ sym (ap verdict_of (goes_on_law _ _ _ _ (c.fault.ensures ws a h.tells) c.passes.ensures c.in_ok-passes.was)
    ∙ stops_at_law _ _ _ _ (c.fault-2.ensures ws a h.short h.tells) c.passes-2.ensures c.in_err-passes-2.was)

pub returns-in_err-passes-3 : goal.returns-in_err-passes-3
unfolding judged
returns-in_err-passes-3 c = λ ws a b h.
    refused c.from_residual-in_err-passes-3.result _ c.from_residual-in_err-passes-3.ensures.1
    ∙ sym (ap verdict_of (goes_on_law _ _ _ _ (c.fault.ensures ws a h.tells) c.passes.ensures c.in_ok-passes.was
    ∙ goes_on_law _ _ _ _ (c.fault-2.ensures ws a h.short h.tells) c.passes-2.ensures c.in_ok-passes-2.was)
    ∙ stops_at_law _ _ _ _ (c.fault-3.ensures c.args.text.now ws a h.tells) c.passes-3.ensures c.in_err-passes-3.was)

pub returns-in_err-passes-4 : goal.returns-in_err-passes-4
unfolding judged
returns-in_err-passes-4 c = λ ws a b h.
    refused c.from_residual-in_err-passes-4.result _ c.from_residual-in_err-passes-4.ensures.1
    ∙ sym (ap verdict_of (goes_on_law _ _ _ _ (c.fault.ensures ws a h.tells) c.passes.ensures c.in_ok-passes.was
    ∙ goes_on_law _ _ _ _ (c.fault-2.ensures ws a h.short h.tells) c.passes-2.ensures c.in_ok-passes-2.was
    ∙ goes_on_law _ _ _ _ (c.fault-3.ensures c.args.text.now ws a h.tells) c.passes-3.ensures c.in_ok-passes-3.was)
    ∙ stops_at_law _ _ _ _ (c.strangers.ensures ws a b h.tells h.binds) c.passes-4.ensures c.in_err-passes-4.was)

pub returns : goal.returns
unfolding judged
returns c = λ ws a b h.
    sym (ap verdict_of (goes_on_law _ _ _ _ (c.fault.ensures ws a h.tells) c.passes.ensures c.in_ok-passes.was
    ∙ goes_on_law _ _ _ _ (c.fault-2.ensures ws a h.short h.tells) c.passes-2.ensures c.in_ok-passes-2.was
    ∙ goes_on_law _ _ _ _ (c.fault-3.ensures c.args.text.now ws a h.tells) c.passes-3.ensures c.in_ok-passes-3.was
    ∙ goes_on_law _ _ _ _ (c.strangers.ensures ws a b h.tells h.binds) c.passes-4.ensures c.in_ok-passes-4.was)
    ∙ sym (ends_law _ _ _ a b (c.unsettled.ensures ws a b h.tells h.binds) c.passes-5.ensures))
