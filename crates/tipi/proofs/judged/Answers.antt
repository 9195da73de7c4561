-- `judged` meets its contract. Assumes nothing.
use mathlib.Core.Path.{sym, ◌∙◌}
use Rattle.tipi.proofs.Judging.{stopped_after, passed_up, judged_through, heard, after_as}
use Rattle.tipi.proofs.judged.Goals as goal

pub first-requires : goal.first-requires
first-requires c =
    record { n_in_bounds = c.requires.n_in_bounds.0; texts_held = c.requires.texts_held }

pub planned-requires : goal.planned-requires
planned-requires c =
    let pre = c.requires in
    let h = pre.texts_held.3 in
    record { n_in_bounds = pre.n_in_bounds; heard = (pre.texts_held.0, pre.texts_held.1, pre.texts_held.2, heard h (judged_through _ _ _ (sym c.in_ok-first.was ∙ c.first.ensures _ _ _ h))) }

pub returns-in_err-first : goal.returns-in_err-first
returns-in_err-first c = λ ws a b h. passed_up _ c.from_residual.ensures.1 (stopped_after _ _ (sym c.in_err-first.was ∙ c.first.ensures ws a b h))

pub returns : goal.returns
returns c = λ ws a b h. let q = judged_through ws a b (sym c.in_ok-first.was ∙ c.first.ensures ws a b h) in after_as q.whole (c.planned.ensures ws a b (heard h q))
