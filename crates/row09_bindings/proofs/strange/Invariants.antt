-- `row09_bindings::strange` meets its contract: the place is the earliest of the lines passed, from the last one back. Assumes nothing.
use Rattle.std.proofs.Common.{◌≡◌, ◌≤◌, List, ℕ}
use Rattle.language.specs.Text.{earliest}
use Rattle.words.specs.Found.{place_told}
use Rattle.tape.specs.Walk.{between}
use Rattle.row09_bindings.proofs.Lacks.{Lacks}
use Rattle.row09_bindings.proofs.strange.Given as goal

abbrev pub invariant-loop-i : goal.invariant-loop-i
invariant-loop-i l = (l.from ≤ l.i) × ((ps : List ℕ) → l.initial.first ≡ place_told (earliest ps) → l.first ≡ place_told (earliest (Lacks (between l.text l.tape l.class 0 l.many) l.bound.text.now l.bound.table.now l.to ps l.i)))
