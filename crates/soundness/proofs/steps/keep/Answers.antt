-- `keep` meets its contract. Assumes nothing.
use native.Mathlib.Omega.{arith}
use Prim.Native.Nat.{◌-◌, ◌≤◌, ◌<◌}
use mathlib.Core.Path.{◌≡◌, sym, ◌∙◌}
use mathlib.Core.Bool.{true, false, ◌&&◌}
use mathlib.Core.List.{[]}
use lib.Dec.{leb}
use Rattle.std.proofs.lemmas.Grind.{common_steps}
use Rattle.plan.specs.Sound.{rules_of, keepable}
use Rattle.item_widths.proofs.Laws.{keepable_there}
use Rattle.soundness.proofs.Wides.{stands_less}
use Rattle.soundness.proofs.Laws.{keep_few, keep_yes, keep_no}
use Rattle.soundness.proofs.steps.keep.Goals as goal

pub returns-in_err-waits : goal.returns-in_err-waits
returns-in_err-waits c =
    let a = c.args in
    let more : 1 ≤ a.state.waits → ⊥ = c.in_err-waits.ensures in
    let few : a.state.waits < 1 = omega arith in
    rw c.from_residual.ensures (record { stands = λ t f. tt; same = λ t e. keep_few (rules_of [] 0 0) t a.state.waits a.ls.now a.state.assigned a.k a.w few })

pub bounds-ls-place : goal.bounds-ls-place
bounds-ls-place c = let h = keepable_there (rules_of [] 0 0) c.args.ls.now c.args.k (sym c.keepable.ensures ∙ c.if-keepable.true) in omega arith

pub returns-then-w-le-WIDTH : goal.returns-then-w-le-WIDTH
returns-then-w-le-WIDTH c =
    let a = c.args in
    let n = a.state.waits in
    let less : (1 ≤ n) × (c.in_ok-waits.waits ≡ n - 1) = c.in_ok-waits.ensures in
    let ok : (keepable (rules_of [] 0 0) a.ls.now a.k && leb a.x a.w && leb a.w 64) ≡ true = grind (arith, common_steps) in
    record {
      stands = λ t f. stands_less t n c.in_ok-waits.waits a.state.assigned (omega arith) f;
      same = λ t e. rw (c.place.ensures.0, less.1) (keep_yes (rules_of [] 0 0) t n a.ls.now a.state.assigned a.k a.w a.x less.0 e ok);
    }

pub returns-else-keepable : goal.returns-else-keepable
returns-else-keepable c =
    let a = c.args in
    let less : (1 ≤ a.state.waits) × (c.in_ok-waits.waits ≡ a.state.waits - 1) = c.in_ok-waits.ensures in
    let no : (keepable (rules_of [] 0 0) a.ls.now a.k && leb a.x a.w && leb a.w 64) ≡ false = grind (arith, common_steps) in
    record { stands = λ t f. tt; same = λ t e. keep_no (rules_of [] 0 0) t a.state.waits a.ls.now a.state.assigned a.k a.w a.x less.0 e no }
