-- `row11_sizes::step` meets its contract: each part leaves what one turn asks, within the bounds of one item more. Assumes nothing.
use Prim.Native.Nat.{◌+◌, ◌≤◌}
use native.Mathlib.Omega.{arith}
use lib.ListN.{length}
use Rattle.size_walk.specs.Steps.{emits_of}
use Rattle.laws.specs.Tables.{Kept}
use Rattle.laws.proofs.Tables.{unstored}
use Rattle.item_effects.proofs.Tables.{emits_few}
use Rattle.row11_sizes.proofs.Turns.{turn_at, onward_bounded, code_kept, lengths_kept}
use Rattle.row11_sizes.proofs.step.Goals as goal

pub part-op-requires : goal.part-op-requires
part-op-requires c = let pre = c.requires in (pre.i_lt_most_settled.0, pre.i_lt_most_settled.1, omega arith)

pub part-p-requires : goal.part-p-requires
part-p-requires c = let pre = c.requires in (pre.i_lt_most_settled.0, pre.i_lt_most_settled.1, omega arith)

pub part-a-requires : goal.part-a-requires
part-a-requires c = let pre = c.requires in (pre.i_lt_most_settled.0, pre.i_lt_most_settled.1, omega arith)

pub seen-requires : goal.seen-requires
seen-requires c = let pre = c.requires in let b = pre.bounded.waits in (omega (arith, pre.i_lt_most_settled.0), omega (arith, pre.i_lt_most_settled.0))

pub effect_at-e-requires : goal.effect_at-e-requires
effect_at-e-requires c = let pre = c.requires in let b = pre.bounded.cases in let e = c.seen.ensures.cases in (pre.i_lt_most_settled.0, pre.i_lt_most_settled.1, omega (arith, pre.i_lt_most_settled.0))

pub emitted-out-requires : goal.emitted-out-requires
emitted-out-requires c = let b = c.requires.bounded.out in omega (arith, c.requires.i_lt_most_settled.2)

pub overflow_sub-out : goal.overflow_sub-out
overflow_sub-out c = let b = c.requires.bounded.rule in let e = c.emitted-out.ensures.0 in omega arith

pub ended-rules-requires : goal.ended-rules-requires
ended-rules-requires c =
    let pre = c.requires in
    let effect-at = c.effect_at-e in
    let emitted = c.emitted-out in
    let b = pre.bounded in
    let e = emitted.ensures.0 in let f = emits_few effect-at.result.emits in (b.rules, pre.lengths_len, omega (arith, pre.i_lt_most_settled.0, b.out))

pub left-waits-requires : goal.left-waits-requires
left-waits-requires c =
    let pre = c.requires in
    let b = pre.bounded.waits in (omega (arith, pre.i_lt_most_settled.0), omega (arith, pre.i_lt_most_settled.0))

pub onward-requires : goal.onward-requires
onward-requires c =
    let pre = c.requires in
    let b = pre.bounded.cases in omega (arith, pre.i_lt_most_settled.0)

pub returns : goal.returns
returns c =
    let pre = c.requires in
    let args = c.args in
    let part = c.part-op in
    let part2 = c.part-p in
    let part3 = c.part-a in
    let seen = c.seen in
    let effect-at = c.effect_at-e in
    let hold = c.hold in
    let emitted = c.emitted-out in
    let the-ended = c.ended-rules in
    let left = c.left-waits in
    let b = pre.bounded in
    let few = emits_few effect-at.result.emits in
    let out = emitted.ensures.0 in
    let fits : args.far.out + length (emits_of effect-at.result.emits) ≤ length args.code.now = omega (arith, b.out, pre.i_lt_most_settled.2) in
    let after : args.far.out ≤ emitted.result = omega arith in
    let cases = c.onward.ensures.1 in
    let is = c.onward.ensures.0 in
    let code : Kept args.far.out emitted.result args.code.now emitted.new.code = record
    { more = after; past = rw (out, emitted.ensures.1) (unstored args.code.now (emits_of effect-at.result.emits) args.far.out fits) } in record {
      bounds = onward_bounded _ _ _ _ _ _ _ _ _ is _ b left.ensures.few after (omega arith) the-ended.ensures.few cases;
      code = code_kept _ _ _ _ _ _ _ _ _ is code;
      lengths = lengths_kept _ _ _ _ _ _ _ _ _ is the-ended.ensures.kept;
      holds = λ s h. turn_at _ _ _ _ _ _ _ _ _ _ _ _ _ _ _ _ _ s h _ _ part.ensures
          part2.ensures part3.ensures effect-at.result _ effect-at.ensures (seen.ensures.state _ _ s h)
          (record {
            wide = left.ensures.widths;
            begun = left.ensures.starts;
            kept = hold.ensures;
            fits = fits;
            long = out;
            coded = emitted.ensures.1;
            few = omega
                (arith, the-ended.auto.lengths, the-ended.ensures.few, pre.lengths_len);
            ended = the-ended.ensures.lengths;
          })
          _ is;
    }
