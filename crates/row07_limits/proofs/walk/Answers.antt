-- `row07_limits::walk` meets its contract: the place is the earliest of the items passed, and the room what they leave. Assumes nothing.
use Rattle.std.proofs.Common.{refl, ap, ◌∙◌, ℕ}
use Rattle.part_lengths.specs.Parts.{places_in}
use Rattle.row07_limits.specs.Walk.{room_at}
use Rattle.row07_limits.proofs.Walking.{no_fault, faults_more, room_more}
use Rattle.row07_limits.proofs.walk.Goals as goal

pub loop-i-init : goal.loop-i-init
unfolding room_at
loop-i-init c = (refl, no_fault _ _)

pub loop-i-preserved : goal.loop-i-preserved
loop-i-preserved c =
    let t = c.args.tape.now in
    let i = c.loop-i.i in
    let inv = c.loop-i.invariant in (
      room_more t i inv.0 (ap (λ (s : ℕ × ℕ). s.1) (c.unwrap_or-size.ensures ∙ c.size_before.ensures 0)) c.next-room.ensures,
      faults_more (places_in c.args.table.now 0 c.args.many) t i inv.0 inv.1 c.item_fault.ensures c.both-first.ensures,
    )
