-- `row11_sizes::fault` meets its contract. The loop's invariant: the tables hold the state after the items passed, within its bounds,
-- and are past it as they were. Assumes nothing.
use mathlib.Core.Path.{◌≡◌, refl, ap, ◌∙◌}
use Prim.Native.Nat.{◌*◌}
use native.Mathlib.Omega.{arith}
use lib.ListN.{take}
use Rattle.plan.specs.Waits.{top}
use Rattle.size_walk.specs.Steps.{walk, begin}
use Rattle.size_walk.specs.Bounds.{up_to}
use Rattle.laws.proofs.Tables.{kept_same, kept_on, whole_table}
use Rattle.row11_sizes.proofs.Turns.{by_index, up_next}
use Rattle.row11_sizes.proofs.fault.Goals as goal

pub loop-i-init : goal.loop-i-init
unfolding top up_to begin
loop-i-init c = record {
  long = refl;
  ends = refl;
  bounded = record { waits = omega arith; out = omega arith; cases = omega arith; rule = omega arith; rules = omega arith };
  coded = kept_same _ _;
  ended = kept_same _ _;
  holds = record {
    wide = refl;
    begun = refl;
    kept = refl;
    coded = refl;
    long = refl;
    ended = refl;
    rules = refl;
    first = refl;
    breadth = refl;
    start = refl;
    cases = refl;
    rule = refl;
  };
}

pub step-far-requires : goal.step-far-requires
step-far-requires c =
    let pre = c.requires in
    let l = c.loop-i.invariant in
    let t = c.loop-i-test.true in record { i_lt_most_settled = (omega (arith, pre.0), omega (arith, pre.1), omega (arith, pre.2, l.long)); lengths_len = l.ends ∙ pre.3; bounded = l.bounded }

pub loop-i-preserved : goal.loop-i-preserved
loop-i-preserved c =
    let step = c.step-far in
    let l = c.loop-i.invariant in record {
      long = step.auto.code ∙ l.long;
      ends = step.auto.lengths ∙ l.ends;
      bounded = step.ensures.bounds;
      coded = kept_on l.coded step.ensures.code;
      ended = kept_on l.ended step.ensures.lengths;
      holds = rw (up_next c.args.items.now c.loop-i.i) (step.ensures.holds (up_to c.args.items.now c.loop-i.i) l.holds);
    }

pub returns : goal.returns
returns c =
    let loop = c.loop-i in
    let l = loop.invariant in
    let q : loop.i ≡ c.args.many = omega arith in
    let e : up_to c.args.items.now loop.i ≡ walk begin (take (6 * c.args.many) c.args.items.now) = ap (up_to c.args.items.now) q ∙ by_index c.args.items.now c.args.many c.requires.1 in
    rw (← e) (record {
      first = l.holds.first;
      code = whole_table _ _ _ loop.far.out l.holds.coded l.holds.long l.coded.past;
      lengths = whole_table _ _ _ loop.far.rules l.holds.ended l.holds.rules l.ended.past;
    })
