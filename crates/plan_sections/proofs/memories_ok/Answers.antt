-- `memories_ok` meets its contract: `all` answers as `all_up_to` does. Assumes nothing.
use Rattle.std.proofs.Common.{◌≡◌, ℕ, true, false, refl, arith, rules}
use Rattle.std.proofs.lemmas.Grind.{common_steps}
use Rattle.std.proofs.lemmas.Iterator.{cases_from_all, YieldsList-from_range}
use Rattle.plan.specs.Sound.{all_up_to, memory_fits}
use Rattle.plan_sections.specs.Parts.{memories_part}
use Rattle.plan_sections.proofs.Parts.{all_told}
use Rattle.plan_sections.proofs.memories_ok.Goals as goal

pub returns-then-n-le-MEMORIES : goal.returns-then-n-le-MEMORIES
unfolding memories_part
returns-then-n-le-MEMORIES c =
    let p = c.args.plan.now in
    let n = c.memory_count-n.result in
    let told : c.all.result ≡ all_up_to p n (memory_fits p) =
    all_told p n (memory_fits p) c.all.result
    (cases_from_all _ _ _ (λ (k : ℕ). memory_fits c.args.plan.now k ≡ true) (λ (k : ℕ). memory_fits c.args.plan.now k ≡ false) c.all.ensures.ran
    (YieldsList-from_range 0 c.memory_count-n.result c.memory_count-n.result refl (omega arith)) (λ x q k. search rules) (λ x q k. search rules)) in
    grind (arith, common_steps, told)
