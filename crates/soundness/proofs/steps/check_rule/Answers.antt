-- `check_rule` meets its contract. Assumes nothing.
use native.Mathlib.Omega.{arith}
use Prim.Native.Nat.{◌*◌, ◌/◌}
use mathlib.Core.Path.{◌≡◌, ◌∙◌}
use Rattle.plan.specs.Layout.{code_at, length_at}
use Rattle.plan.specs.Sound.{rule_check}
use Rattle.soundness.proofs.steps.check_rule.Goals as goal

pub returns : goal.returns
unfolding rule_check code_at
returns c =
    let e : 4 * (c.place-items.result / 4) ≡ length_at c.args.plan.now c.args.r = omega (arith, c.place-items.ensures.0, c.length_at.ensures, c.requires.from_value.2) in
    (c.check_items.ensures.0, c.check_items.ensures.1 ∙ simp (c.present_at.ensures, e, c.requires.from_value.0))
