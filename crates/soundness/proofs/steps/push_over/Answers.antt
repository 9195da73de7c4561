-- `push_over` meets its contract. Assumes nothing.
use native.Mathlib.Omega.{arith}
use Prim.Native.Nat.{◌-◌, ◌≤◌, ◌<◌}
use mathlib.Core.Path.{◌≡◌}
use mathlib.Core.Logic.{inl, inr}
use lib.ListN.{length}
use Rattle.soundness.proofs.Wides.{wide_push}
use Rattle.soundness.proofs.Laws.{over_short, over_wide, over_full, over_pushed}
use Rattle.soundness.proofs.steps.push_over.Goals as goal

pub returns-in_err-m : goal.returns-in_err-m
returns-in_err-m c =
    let a = c.args in
    let more : a.k ≤ a.state.waits → ⊥ = c.in_err-m.ensures in
    let few : a.state.waits < a.k = omega arith in
    rw c.from_residual.ensures (record { stands = tt; same = λ ls. over_short a.ws.now a.state.waits a.k a.w ls a.state.assigned few })

pub returns-then-w-gt-WIDTH : goal.returns-then-w-gt-WIDTH
returns-then-w-gt-WIDTH c =
    let a = c.args in
    let n = a.state.waits in
    let less : (a.k ≤ n) × (c.in_ok-m.m ≡ n - a.k) = c.in_ok-m.ensures in
    record {
      stands = tt;
      same = λ ls. elim c.then-w-gt-WIDTH.either [
        | inl h ↦ over_wide a.ws.now n a.k a.w ls a.state.assigned less.0 h
        | inr h ↦ over_full a.ws.now n a.k a.w ls a.state.assigned less.0 (omega arith)
      ];
    }

pub returns : goal.returns
returns c =
    let a = c.args in
    let ws = a.ws.now in
    let n = a.state.waits in
    let less : (a.k ≤ n) × (c.in_ok-m.m ≡ n - a.k) = c.in_ok-m.ensures in
    let u : n - a.k < length ws = omega arith in
    rw less.1 (record {
      stands = record { few = omega arith; mask = c.requires.0.mask; wide = wide_push ws n (n - a.k) a.w (omega arith) u (omega arith) c.requires.0.wide };
      same = λ ls. over_pushed ws n a.k a.w ls a.state.assigned less.0 (omega arith) (omega arith) u;
    })
