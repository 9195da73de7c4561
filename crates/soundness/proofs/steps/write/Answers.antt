-- `write` meets its contract. Assumes nothing.
use native.Mathlib.Omega.{arith}
use Prim.Native.Nat.{◌-◌, ◌≤◌, ◌<◌}
use mathlib.Core.Path.{◌≡◌}
use mathlib.Core.Bool.{true, false, ◌&&◌}
use lib.Dec.{leb}
use Rattle.std.proofs.lemmas.Grind.{common_steps}
use Rattle.plan.specs.Layout.{memory_width_at}
use Rattle.plan.specs.Sound.{rules_of, memory_ok}
use Rattle.soundness.proofs.Wides.{stands_less}
use Rattle.soundness.proofs.Laws.{write_few, write_yes, write_no}
use Rattle.soundness.proofs.steps.write.Goals as goal

pub returns-in_err-waits : goal.returns-in_err-waits
returns-in_err-waits c =
    let a = c.args in
    let more : 2 ≤ a.state.waits → ⊥ = c.in_err-waits.ensures in
    let few : a.state.waits < 2 = omega arith in
    λ ls. rw c.from_residual.ensures (record { stands = λ s f. tt; same = λ s e. write_few (rules_of a.plan.now 0 0) s a.state.waits ls a.state.assigned a.m a.f a.size few })

pub returns-then-x-memory_width : goal.returns-then-x-memory_width
returns-then-x-memory_width c =
    let a = c.args in
    let n = a.state.waits in
    let less : (2 ≤ n) × (c.in_ok-waits.waits ≡ n - 2) = c.in_ok-waits.ensures in
    let ok : (memory_ok (rules_of a.plan.now 0 0) a.m a.f a.size && leb a.x (memory_width_at a.plan.now a.m)) ≡ true = grind (arith, common_steps) in
    λ ls. record {
      stands = λ s f. stands_less s n c.in_ok-waits.waits a.state.assigned (omega arith) f;
      same = λ s e. rw less.1 (write_yes (rules_of a.plan.now 0 0) s n ls a.state.assigned a.m a.f a.size a.x less.0 e ok);
    }

pub returns-else-memory_ok : goal.returns-else-memory_ok
returns-else-memory_ok c =
    let a = c.args in
    let less : (2 ≤ a.state.waits) × (c.in_ok-waits.waits ≡ a.state.waits - 2) = c.in_ok-waits.ensures in
    let no : (memory_ok (rules_of a.plan.now 0 0) a.m a.f a.size && leb a.x (memory_width_at a.plan.now a.m)) ≡ false = grind (arith, common_steps) in
    λ ls. record { stands = λ s f. tt; same = λ s e. write_no (rules_of a.plan.now 0 0) s a.state.waits ls a.state.assigned a.m a.f a.size a.x less.0 e no }
