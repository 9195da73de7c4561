-- `row07_limits::walk` meets its contract: the place is the earliest of the items passed, and the room what they leave. Assumes nothing.
use Rattle.std.proofs.Common.{◌≡◌}
use Rattle.language.specs.Text.{earliest}
use Rattle.words.specs.Found.{place_told}
use Rattle.part_lengths.specs.Parts.{places_in}
use Rattle.row07_limits.specs.Walk.{room_at, faults_at}
use Rattle.row07_limits.proofs.walk.Given as goal

abbrev pub invariant-loop-i : goal.invariant-loop-i
invariant-loop-i l = (l.room ≡ room_at l.tape l.i) × (l.first ≡ place_told (earliest (faults_at (places_in l.table 0 l.many) l.tape l.i)))
