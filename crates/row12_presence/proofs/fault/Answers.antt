-- `row12_presence::fault` meets its contract. The loop's invariant: what is left of the walk gives the answer. Assumes nothing.
use native.Mathlib.Omega.{arith}
use mathlib.Core.Path.{◌≡◌, refl, sym, ◌∙◌}
use Prim.Native.Nat.{◌+◌, ◌*◌}
use lib.ListN.{get_or}
use Rattle.row12_presence.specs.Walk.{soonest}
use Rattle.row12_presence.proofs.Turns.{begun, turn, whole}
use Rattle.row12_presence.proofs.fault.Goals as goal
use Rattle.row12_presence.proofs.fault.Goals.{then-at_fault, else-at_fault}

pub loop-i-init : goal.loop-i-init
loop-i-init c = let d = c.default-met.ensures in rw (begun c.default-met.result d.0 d.1.0 d.1.1.0 d.1.1.1) refl

pub loop-i-preserved : goal.loop-i-preserved
unfolding soonest
loop-i-preserved c =
    let t = c.args.items.now in
    let i = c.loop-i.i in
    let first : c.if-at_fault.first ≡ soonest c.at_fault.result (get_or t (6 * i + 1) 0) c.loop-i.first =
    elim c.if-at_fault.branch [ then-at_fault w ↦ rw w.if-at_fault.true (w.first-is ∙ w.earlier-first.ensures) | else-at_fault w ↦ rw w.if-at_fault.false w.first-is ] in
    turn t c.args.many c.requires i c.loop-i-test.true _ _ _ _ c.met_after-met.ensures c.at_fault.ensures first ∙ c.loop-i.invariant

pub returns : goal.returns
returns c = sym (whole c.args.items.now c.args.many c.requires c.loop-i.i (omega arith) c.loop-i.met c.loop-i.first) ∙ c.loop-i.invariant
