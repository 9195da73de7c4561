-- `row10_widths::codes::type_code` meets its contract: the slot so far, and the items left, come to the same nodes. Assumes nothing.
use native.Mathlib.Omega.{arith}
use mathlib.Core.Path.{refl, sym, ap, ◌∙◌}
use Prim.Native.Nat.{ℕ}
use lib.ListN.{take, drop}
use Rattle.type_nodes.specs.Codes.{env_in}
use Rattle.type_codes.proofs.Slots.{kept_take, kept_most}
use Rattle.type_nodes.proofs.Turns.{search_stop, search_more, search_end}
use Rattle.type_codes.proofs.type_code.Goals as goal

pub loop-i-init : goal.loop-i-init
loop-i-init c = (omega arith, refl, refl, refl)

pub returns-then-stops : goal.returns-then-stops
returns-then-stops c =
    let args = c.args in
    let pre = c.requires in
    let loop = c.loop-i in
    let loop-test = c.loop-i-test in
    let role-of = c.role_of-role in
    record {
      few = let e = kept_most role-of.result loop.len in omega (arith, c.kept.ensures);
      is = ap
          (λ (j : ℕ). take j (drop args.at loop.code)) c.kept.ensures ∙ kept_take role-of.result loop.len (drop args.at loop.code) ∙
          search_stop args.tape.now args.n loop.i pre.n_in_bounds.0
          (env_in args.text.now args.tape.now args.bound args.ports) loop.g
          (take loop.len (drop args.at loop.code)) loop-test.true role-of.ensures refl
          (sym c.stops.ensures ∙ c.if-stops.true) ∙ loop.invariant.3;
      before = loop.invariant.2;
      long = loop.invariant.1;
    }

pub loop-i-preserved : goal.loop-i-preserved
loop-i-preserved c =
    let args = c.args in
    let pre = c.requires in
    let loop = c.loop-i in
    let loop-test = c.loop-i-test in
    let role-of = c.role_of-role in
    let stops = c.stops in
    let if1 = c.if-stops in
    let grown = c.grown-len in (
      grown.ensures.few,
      grown.ensures.long ∙ loop.invariant.1,
      grown.ensures.before ∙ loop.invariant.2,
      search_more args.tape.now
          args.n loop.i pre.n_in_bounds.0 (env_in args.text.now args.tape.now args.bound args.ports)
          loop.g (take loop.len (drop args.at loop.code)) loop-test.true role-of.ensures refl
          (sym stops.ensures ∙ if1.false) c.left-g.ensures grown.ensures.is ∙ loop.invariant.3,
    )

pub returns : goal.returns
returns c =
    let args = c.args in
    let pre = c.requires in
    let loop = c.loop-i in
    record {
      few = omega arith;
      is = search_end args.tape.now args.n loop.i pre.n_in_bounds.0
          (env_in args.text.now args.tape.now args.bound args.ports) loop.g
          (take loop.len (drop args.at loop.code)) (omega arith) ∙ loop.invariant.3;
      before = loop.invariant.2;
      long = loop.invariant.1;
    }
