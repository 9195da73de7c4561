-- `words::left_out` meets its contract: it is the earliest of the words from i on, from the last one back to the first. Assumes nothing.
use Rattle.std.proofs.Common.{◌≡◌, arith, sym, ap, ◌∙◌, ◌-◌, ◌+◌, ◌*◌, get_or}
use Rattle.words.specs.Found.{earlier_of}
use Rattle.words.proofs.Whole.{left_none, left_here, left_next, from_before, from_here}
use Rattle.words.proofs.left_out.Goals as goal

pub loop-i-init : goal.loop-i-init
loop-i-init c = left_none _ _ (c.args.n - c.args.n) (omega arith)

pub loop-i-preserved-then-is_left_out : goal.loop-i-preserved-then-is_left_out
loop-i-preserved-then-is_left_out c =
    let t = c.args.table.now in
    let i = c.loop-i.i in
    c.earlier-first.ensures
    ∙ ap (earlier_of (get_or t (4 * (i - 1) + 1) 0)) (c.loop-i.invariant ∙ sym (from_here t i c.args.n c.loop-i-test.true))
    ∙ sym (from_before t i c.args.n c.loop-i-test.true c.loop-i.auto.i ∙ left_here t (i - 1) (c.args.n - i) (sym c.is_left_out.ensures ∙ c.if-is_left_out.true))

pub loop-i-preserved : goal.loop-i-preserved
loop-i-preserved c =
    let t = c.args.table.now in
    let i = c.loop-i.i in
    (c.loop-i.invariant ∙ sym (from_here t i c.args.n c.loop-i-test.true))
    ∙ sym (from_before t i c.args.n c.loop-i-test.true c.loop-i.auto.i ∙ left_next t (i - 1) (c.args.n - i) (sym c.is_left_out.ensures ∙ c.if-is_left_out.false))

pub returns : goal.returns
returns c = let e : c.loop-i.i ≡ 0 = omega arith in let z : c.args.n - 0 ≡ c.args.n = omega arith in c.loop-i.invariant ∙ rw (e, z)
