-- `groups_ok` meets its contract: `all` answers as `all_up_to` does. Assumes nothing.
use Rattle.std.proofs.Common.{◌≡◌, ℕ, true, false, refl, arith, rules}
use Rattle.std.proofs.lemmas.Grind.{common_steps}
use Rattle.std.proofs.lemmas.Iterator.{cases_from_all, YieldsList-from_range}
use Rattle.plan.specs.Sound.{all_up_to, group_ok}
use Rattle.plan_sections.specs.Parts.{groups_part}
use Rattle.plan_sections.proofs.Parts.{all_told}
use Rattle.plan_sections.proofs.groups_ok.Goals as goal

pub returns-then-rules_before-place : goal.returns-then-rules_before-place
unfolding groups_part
returns-then-rules_before-place c =
    let p = c.args.plan.now in
    let n = c.group_count-n.result in
    let told : c.all.result ≡ all_up_to p n (group_ok p) =
    all_told p n (group_ok p) c.all.result
    (cases_from_all _ _ _ (λ (k : ℕ). group_ok c.args.plan.now k ≡ true) (λ (k : ℕ). group_ok c.args.plan.now k ≡ false) c.all.ensures.ran
    (YieldsList-from_range 0 c.group_count-n.result c.group_count-n.result refl (omega arith)) (λ x q k. search rules) (λ x q k. search rules)) in
    grind (arith, common_steps, told)
