-- `row08_types::seen_around` meets its contract: what is known so far, and the items left, come to the same. Assumes nothing.
use Rattle.std.proofs.Common.{◌≡◌, arith, refl, sym, ap, ◌∙◌, not}
use Rattle.row08_types.specs.Walk.{is_type}
use Rattle.row08_types.specs.declared.Around.{Around}
use Rattle.row08_types.proofs.Turns.{in_types_law, seen_more, seen_stop, seen_end, waiting_most, lefts_most}
use Rattle.row08_types.proofs.seen_around.Goals as goal
use Rattle.row08_types.proofs.seen_around.Goals.{in-Other, in_default}

pub returns-then-matches : goal.returns-then-matches
unfolding is_type
returns-then-matches c =
    let typed : is_type c.node_of-k.result ≡ not c.match-matches.matches =
    elim c.match-matches.branch [ in-Other w ↦ rw (w.in-Other.is, w.matches-is) refl | in_default w ↦ rw w.matches-is (sym (in_types_law _ w.in_default.not-Other)) ] in (
      seen_stop c.args.tape.now c.args.n c.loop-i.i c.loop-i.waits c.loop-i.s c.requires.0 c.loop-i-test.true c.node_of-k.ensures (typed ∙ ap not c.if-matches.true)
          ∙ c.loop-i.invariant.2,
      omega arith,
    )

pub loop-i-preserved : goal.loop-i-preserved
unfolding is_type
loop-i-preserved c =
    let typed : is_type c.node_of-k.result ≡ not c.match-matches.matches =
    elim c.match-matches.branch [ in-Other w ↦ rw (w.in-Other.is, w.matches-is) refl | in_default w ↦ rw w.matches-is (sym (in_types_law _ w.in_default.not-Other)) ] in
    let w = waiting_most c.loop-i.waits c.node_of-k.result in
    let l = lefts_most c.loop-i.waits c.loop-i.s c.node_of-k.result in
    let e = ap (λ (a : Around). a.lefts) c.outward-s.ensures in (
      omega (arith, c.waiting-waits.ensures),
      omega arith,
      seen_more c.args.tape.now c.args.n c.loop-i.i c.loop-i.waits c.loop-i.s c.requires.0 c.loop-i-test.true c.node_of-k.ensures (typed ∙ ap not c.if-matches.false)
          c.waiting-waits.ensures c.outward-s.ensures
          ∙ c.loop-i.invariant.2,
    )

pub returns : goal.returns
returns c = (seen_end c.args.tape.now c.args.n c.loop-i.i c.loop-i.waits c.loop-i.s c.requires.0 (omega arith) ∙ c.loop-i.invariant.2, omega arith)
