-- `bindings::each_line` meets its contract: the lines that are left, read from here, give what all give. Assumes nothing.
use native.Mathlib.Omega.{arith}
use mathlib.Core.Path.{◌≡◌, refl, ◌∙◌}
use Rattle.bindings.specs.Steps.{lines_told}
use Rattle.binding_numbers.proofs.Numbers.{went_in, lost_in, exit}
use Rattle.bindings.proofs.Rows.{upto_start, upto_next, upto_lost, upto_done, line_went, line_lost, named_none, named_as, named_went}
use Rattle.bindings.proofs.each_line.Goals as goal

pub loop-i-init : goal.loop-i-init
loop-i-init c = (refl, upto_start _ _ _ _ _ c.requires.lent.inside)

pub returns-in_err-at : goal.returns-in_err-at
unfolding lines_told
returns-in_err-at c =
    let w = c.line.ensures.reads in
    let e = c.in_err-at.was in
    rw (exit c.from_residual.ensures.1)
    (record {
      reads = record { tells = upto_lost c.loop-i.invariant.1 c.loop-i-test.true (line_lost _ _ w e); inside = lost_in w e; small = omega arith };
      named = named_none _ _;
    })

pub loop-i-preserved : goal.loop-i-preserved
loop-i-preserved c =
    let loop = c.loop-i in
    let line = c.line in
    let e = c.in_ok-at.was in (
      line.auto.table ∙ loop.invariant.0,
      upto_next loop.invariant.1 c.loop-i-test.true (line_went _ _ line.ensures.reads e) line.ensures.kept (named_went _ e line.ensures.named)
          (went_in line.ensures.reads e),
    )

pub returns : goal.returns
unfolding lines_told
returns c =
    let w = c.loop-i.invariant.1 in
    let e : c.loop-i.i ≡ c.args.k = omega arith in
    record { reads = record { tells = upto_done w e; inside = w.inside; small = c.requires.k_le_lines.0 }; named = named_as e w.named }
