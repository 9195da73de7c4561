-- `gaps::close` meets its contract: the comment's end is as far from the start as the bytes passed and what is left say. Assumes nothing.
use native.Mathlib.Omega.{arith}
use mathlib.Core.Path.{◌≡◌, sym, ◌∙◌}
use Prim.Native.Nat.{◌+◌, ◌-◌}
use Rattle.gaps.proofs.Gaps.{raised_none, close_next}
use Rattle.spans.proofs.Spans.{pair_room}
use Rattle.gaps.proofs.close.Goals as goal

pub loop-i-init : goal.loop-i-init
loop-i-init c = let z : c.args.at - c.args.at ≡ 0 = omega arith in rw z (sym (raised_none _))

pub returns-then-pair-clause-inside : goal.returns-then-pair-clause-inside
returns-then-pair-clause-inside c = let h = pair_room c.args.text.now c.loop-i.i 42 47 (omega arith) (sym c.pair.ensures ∙ c.if-pair.true) in (omega arith, omega (arith, h))

pub loop-i-preserved : goal.loop-i-preserved
loop-i-preserved c =
    let z : c.loop-i.i + 1 - c.args.at ≡ c.loop-i.i - c.args.at + 1 = omega arith in
    rw z (close_next c.args.text.now c.loop-i.i c.loop-i-test.true (c.loop-i.i - c.args.at) _ (sym c.pair.ensures ∙ c.if-pair.false) c.loop-i.invariant)
