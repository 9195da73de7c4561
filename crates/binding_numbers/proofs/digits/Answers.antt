-- `binding_numbers::digits` meets its contract: the digits that are left, after those read, give what all give. Assumes nothing.
use native.Mathlib.Omega.{arith}
use lib.ListN.{length}
use mathlib.Core.Path.{◌≡◌, sym, ◌∙◌}
use Rattle.binding_numbers.specs.Steps.{number_told}
use Rattle.binding_numbers.proofs.Numbers.{digits_over, digits_stop, digits_more, follows}
use Rattle.binding_numbers.proofs.digits.Goals as goal

pub returns-in-None : goal.returns-in-None
unfolding number_told
returns-in-None c = record { tells = sym c.loop-at.invariant.1 ∙ digits_stop _ _ c.loop-at-test.true _ _ (sym c.grown.ensures ∙ c.in-None.is); inside = omega arith; small = omega arith }

pub loop-at-preserved : goal.loop-at-preserved
loop-at-preserved c =
    let e = sym c.grown.ensures ∙ c.in-Some.is in
    ((follows _ _ _ e).small, sym (digits_more _ _ c.loop-at-test.true _ _ e) ∙ c.loop-at.invariant.1)

pub returns : goal.returns
unfolding number_told
returns c =
    let e : length c.args.text.now ≡ c.loop-at.at = omega arith in
    record {
      tells = rw e (sym c.loop-at.invariant.1 ∙ digits_over c.args.text.now c.loop-at.at _ _ c.loop-at-test.false);
      inside = omega arith;
      small = omega arith;
    }
