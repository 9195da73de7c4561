-- `assign` meets its contract. Assumes nothing.
use native.Mathlib.Omega.{arith}
use Prim.Native.Nat.{◌-◌, ◌≤◌, ◌<◌}
use mathlib.Core.Path.{◌≡◌, sym, ◌∙◌}
use Rattle.plan.specs.Sound.{rules_of}
use Rattle.soundness.proofs.Wides.{wide_less}
use Rattle.soundness.proofs.Laws.{assign_few, assign_yes, assign_no, mask_more, output_facts}
use Rattle.soundness.proofs.steps.assign.Goals as goal

pub returns-in_err-waits : goal.returns-in_err-waits
returns-in_err-waits c =
    let a = c.args in
    let more : 1 ≤ a.state.waits → ⊥ = c.in_err-waits.ensures in
    let few : a.state.waits < 1 = omega arith in
    λ ls. rw c.from_residual.ensures (record { stands = λ s f. tt; same = λ s e. assign_few (rules_of a.plan.now a.present a.taken) s a.state.waits ls a.state.assigned a.p few })

pub power-requires : goal.power-requires
power-requires c =
    let a = c.args in
    let f = output_facts (rules_of a.plan.now a.present a.taken) a.state.assigned a.p a.x (sym c.output_ok.ensures ∙ c.if-output_ok.true) in
    omega arith

pub overflow_add-result : goal.overflow_add-result
overflow_add-result c =
    let a = c.args in
    let f = output_facts (rules_of a.plan.now a.present a.taken) a.state.assigned a.p a.x (sym c.output_ok.ensures ∙ c.if-output_ok.true) in
    let g = mask_more a.state.assigned a.p c.requires.1 (omega arith) f.1 in
    omega (arith, c.power.ensures)

pub returns-then-output_ok : goal.returns-then-output_ok
returns-then-output_ok c =
    let a = c.args in
    let n = a.state.waits in
    let d = a.state.assigned in
    let t = rules_of a.plan.now a.present a.taken in
    let b = sym c.output_ok.ensures ∙ c.if-output_ok.true in
    let f = output_facts t d a.p a.x b in
    let l : a.p < 16 = omega arith in
    let less : (1 ≤ n) × (c.in_ok-waits.waits ≡ n - 1) = c.in_ok-waits.ensures in
    λ ls. record {
      stands = λ s g. record {
        few = omega (arith, g.few);
        mask = rw c.power.ensures (mask_more d a.p c.requires.1 l f.1);
        wide = wide_less s n c.in_ok-waits.waits (omega arith) g.wide;
      };
      same = λ s e. rw (c.power.ensures, less.1) (assign_yes t s n ls d a.p a.x less.0 e b);
    }

pub returns-else-output_ok : goal.returns-else-output_ok
returns-else-output_ok c =
    let a = c.args in
    let t = rules_of a.plan.now a.present a.taken in
    let less : (1 ≤ a.state.waits) × (c.in_ok-waits.waits ≡ a.state.waits - 1) = c.in_ok-waits.ensures in
    λ ls. record { stands = λ s f. tt; same = λ s e. assign_no t s a.state.waits ls a.state.assigned a.p a.x less.0 e (sym c.output_ok.ensures ∙ c.if-output_ok.false) }
