-- `planned` meets its contract. Assumes nothing.
use Rattle.tipi.proofs.Finishing.{part_long, few_widths, least_widths, no_widths, late_after}
use borrow.Author.Rules.{rules}
use Rattle.tipi.proofs.plans.planned.Goals as goal

pub solved-requires : goal.solved-requires
solved-requires c =
    let pre = c.requires in
    record { n_in_bounds = (pre.n_in_bounds.0, search rules); asked = (pre.heard.0, pre.heard.1, pre.heard.2, pre.heard.3.asked) }

pub slice_bounds-widths-end : goal.slice_bounds-widths-end
slice_bounds-widths-end c = let h = c.requires.heard.3 in few_widths (c.solved.ensures _ _ _ h.asked) c.in-Some.is

pub slice_bounds-sized-end : goal.slice_bounds-sized-end
slice_bounds-sized-end c = let h = c.requires.heard.3 in part_long _ _ (few_widths (c.solved.ensures _ _ _ h.asked) c.in-Some.is)

pub sized-requires : goal.sized-requires
sized-requires c =
    let pre = c.requires in
    let solved = c.solved in
    let w = c.in-Some in
    let h = pre.heard.3 in
    record { n_in_bounds = pre.n_in_bounds; heard = (pre.heard.0, pre.heard.1, pre.heard.2, h, least_widths (solved.ensures _ _ _ h.asked) w.is) }

pub returns-in-Some : goal.returns-in-Some
returns-in-Some c = λ ws a b h. let l = least_widths (c.solved.ensures ws a b h.asked) c.in-Some.is in late_after l (c.sized.ensures ws a b h l)

pub returns-in-None : goal.returns-in-None
returns-in-None c = λ ws a b h. rw c.refused.ensures (no_widths (c.solved.ensures ws a b h.asked) c.in-None.is _)
