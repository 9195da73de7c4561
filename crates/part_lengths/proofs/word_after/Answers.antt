-- `part_lengths::word_after` meets its contract: what is left of the words gives the same place. Assumes nothing.
use Rattle.std.proofs.Common.{arith, sym, ap, ◌∙◌, List, ℕ}
use Rattle.language.specs.Text.{earliest}
use Rattle.words.specs.Found.{place_told}
use Rattle.part_lengths.proofs.Backs.{left_all, left_here, left_next, left_none}
use Rattle.part_lengths.proofs.word_after.Goals as goal

pub loop-i-init : goal.loop-i-init
loop-i-init c = left_all _ _ _ _

pub returns-then-table-i : goal.returns-then-table-i
returns-then-table-i c =
    let args = c.args in
    c.nth_place.ensures ∙ ap (λ (l : List ℕ). place_told (earliest l))
    (sym (c.loop-i.invariant ∙ left_here args.table.now args.many args.place args.more c.loop-i.i c.loop-i-test.true c.if-table-i.true))

pub loop-i-preserved : goal.loop-i-preserved
loop-i-preserved c = c.loop-i.invariant ∙ left_next c.args.table.now c.args.many c.args.place c.args.more c.loop-i.i c.loop-i-test.true c.if-table-i.false

pub returns : goal.returns
unfolding earliest place_told
returns c = ap (λ (l : List ℕ). place_told (earliest l)) (sym (c.loop-i.invariant ∙ left_none c.args.table.now c.args.many c.args.place c.args.more c.loop-i.i (omega arith)))
