-- `type_value::value_at` meets its contract: midway, what is left of the code leads to the value of the whole. Assumes nothing.
use Rattle.type_value.specs.Walk.{waiting}
use Rattle.type_value.proofs.Tested.{Midway}
use Rattle.type_value.proofs.value_at.Given as goal

abbrev pub invariant-loop-i : goal.invariant-loop-i
invariant-loop-i l = Midway l.ws l.code l.from l.end l.i (waiting l.waiting.values l.waiting.n)
