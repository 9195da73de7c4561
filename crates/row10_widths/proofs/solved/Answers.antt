-- `row10_widths::solved` meets its contract: the slots so far hold the wanted widths so far, and all of them are what is solved. Assumes nothing.
use native.Mathlib.Omega.{arith}
use mathlib.Core.Path.{◌≡◌, refl, ◌∙◌}
use Prim.Native.Nat.{◌+◌, ◌*◌}
use lib.ListN.{length, take, length-set, length-take}
use Rattle.typing.specs.Solved.{terms_of}
use Rattle.type_codes.proofs.Slots.{no_slots, one_slot}
use Rattle.row10_widths.proofs.Whole.{few_declared, laid, settles}
use Rattle.row10_widths.proofs.solved.Goals as goal

pub overflow_add-all : goal.overflow_add-all
overflow_add-all c =
    let s = c in
    let z = few_declared s.args.text.now s.args.tape.now s.args.n s.args.bound s.requires.n_in_bounds.0 s.requires.asked.3 c.declared-c.ensures in
    omega (arith, z.0, z.1)

pub loop-i-init : goal.loop-i-init
loop-i-init c =
    let s = c in
    let z = few_declared s.args.text.now s.args.tape.now s.args.n s.args.bound s.requires.n_in_bounds.0 s.requires.asked.3 c.declared-c.ensures in
    (omega (arith, z.0, z.1), z.0, z.2, refl, refl, refl, no_slots _ _ _ _ _)

pub loop-i-preserved : goal.loop-i-preserved
loop-i-preserved c =
    let l = c.loop-i in
    (l.invariant.0, l.invariant.1, l.invariant.2, c.want_code.ensures.long ∙ l.invariant.3, length-set l.starts l.i (64 * l.i) ∙ l.invariant.4, length-set l.ends l.i (64 * l.i + c.want_code.result) ∙ l.invariant.5, one_slot l.invariant.6 (omega arith) (omega arith) c.want_code.ensures)

pub slice_bounds-solve-end-2 : goal.slice_bounds-solve-end-2
slice_bounds-solve-end-2 c =
    let all = c.declared-c.result.ports + c.declared-c.result.memories in
    let l = c.loop-i in
    let z = length-take all l.starts in
    let e : all ≡ length (take all l.starts) = omega arith in
    e

pub slice_bounds-solve-end-3 : goal.slice_bounds-solve-end-3
slice_bounds-solve-end-3 c =
    let all = c.declared-c.result.ports + c.declared-c.result.memories in
    let l = c.loop-i in
    let z = length-take all l.ends in
    let e : all ≡ length (take all l.ends) = omega arith in
    e

pub slice_bounds-solve-end-5 : goal.slice_bounds-solve-end-5
slice_bounds-solve-end-5 c =
    let all = c.declared-c.result.ports + c.declared-c.result.memories in
    let s = c in
    let z = length-take all s.args.widths.now in
    let e : all ≡ length (take all s.args.widths.now) = omega arith in
    e

pub solve-requires : goal.solve-requires
solve-requires c =
    let declared = c.declared-c in
    let loop = c.loop-i in
    let all = declared.result.ports + declared.result.memories in
    let s = c in
    let l = loop in
    let x = length-take all s.args.widths.now in
    let y = length-take all l.starts in
    record {
      coded = (
        terms_of s.requires.asked.1 s.requires.asked.2,
        (laid s.args.text.now s.args.tape.now s.args.n s.args.bound s.requires.n_in_bounds.0
            s.requires.asked.3 declared.ensures l.code l.starts l.ends l.i (omega arith) l.invariant.6 l.invariant.3 l.invariant.4
            l.invariant.5).coded,
      );
      ws_len = omega arith;
    }

pub returns : goal.returns
returns c = λ ws a b h.
    let s = c in
    let l = c.loop-i in
    let r = laid s.args.text.now s.args.tape.now s.args.n s.args.bound s.requires.n_in_bounds.0 h c.declared-c.ensures l.code l.starts l.ends l.i (omega arith) l.invariant.6 l.invariant.3 l.invariant.4 l.invariant.5 in
    rw c.then_some.ensures (settles r _ _ c.solve.result (c.solve.ensures (terms_of a b) r.coded))
