-- `settle::walk` meets its contract. The loop's invariant: the tables hold the walk's state after the items passed, within its bounds,
-- and are past it as they were. Assumes nothing.
use mathlib.Core.Path.{◌≡◌, refl, sym, ap, ◌∙◌}
use Prim.Native.Nat.{ℕ}
use native.Mathlib.Omega.{arith}
use lib.ListN.{length, length-replicate}
use lib.Seq.{length-take-le}
use Rattle.tape.specs.Walk.{names_on}
use Rattle.laws.proofs.Tables.{kept_same, kept_on}
use Rattle.item_writes.specs.Walk.{State, walked, start, around_of}
use Rattle.item_writes.specs.Tables.{waiting, Ordered, state_of}
use Rattle.settle.proofs.Turns.{walked_next}
use Rattle.settle.proofs.walk.Goals as goal

pub loop-i-init : goal.loop-i-init
unfolding state_of waiting Ordered names_on walked start
loop-i-init c = rw c.begin-far.ensures (record {
  many_nodes = length-replicate {A = ℕ} 8192 0;
  many_types = length-replicate {A = ℕ} 8192 0;
  long = refl;
  bounded = record { types = omega arith; nodes = omega arith; out = omega arith; lets = omega arith; vals = omega arith; ordered = omega arith };
  kept = kept_same _ _;
  holds = refl;
})

pub step-far-requires : goal.step-far-requires
step-far-requires c =
    let pre = c.requires in
    let t = c.loop-i-test.true in
    let l = c.loop-i.invariant in (t, l.many_nodes, l.many_types, omega (arith, pre, l.long, t), l.bounded)

pub loop-i-preserved : goal.loop-i-preserved
loop-i-preserved c =
    let step = c.step-far in
    let l = c.loop-i.invariant in
    let k = step.auto in record {
      many_nodes = k.code ∙ l.many_nodes;
      many_types = k.starts ∙ l.many_types;
      long = k.out ∙ l.long;
      bounded = step.ensures.bounded;
      kept = kept_on l.kept step.ensures.kept;
      holds = walked_next _ _ _ _ _ l.holds step.ensures.state;
    }

pub shape_of-out : goal.shape_of-out
shape_of-out c = c.loop-i.invariant.long

pub returns : goal.returns
unfolding state_of
returns c =
    let t = c in
    let l = c.loop-i.invariant in
    let q : c.loop-i.i ≡ t.args.given.many = omega arith in
    let e = ap (λ (s : State). s.out) (l.holds ∙ ap (walked (around_of t.args.given.text.now t.args.given.tape.now t.args.given.many t.args.given.bound.text.now t.args.given.bound.table.now t.args.given.bound.lines t.args.given.widths.now) t.args.given.tape.now) q) in
    record { long = sym (length-take-le c.loop-i.far.out c.loop-i.out (omega (arith, l.bounded.out, q, l.long, c.requires))) ∙ ap length e; items = e; past = l.kept.past }
