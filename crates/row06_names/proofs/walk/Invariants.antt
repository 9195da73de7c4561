-- `tape::walk` meets its contract: the place is the earliest of the items passed. Assumes nothing.
use Rattle.std.proofs.Common.{◌≡◌, ◌≤◌}
use Rattle.language.specs.Text.{earliest}
use Rattle.words.specs.Found.{place_told}
use Rattle.tape.specs.Tape.{END, RULED}
use Rattle.tape.specs.Walk.{after}
use Rattle.row06_names.specs.Walk.{faults_at}
use Rattle.row06_names.proofs.walk.Given as goal

abbrev pub invariant-loop-i : goal.invariant-loop-i
invariant-loop-i l = (l.rule ≤ l.i) × (l.lets ≤ l.i) × (l.rule ≡ after RULED l.tape l.i) × (l.lets ≡ after END l.tape l.i) × (l.first ≡ place_told (earliest (faults_at l.text l.tape l.many l.i)))
