-- `tape::said_as` meets its contract: what is left of the items answers as all of them. Assumes nothing.
use Rattle.std.proofs.Common.{◌≡◌, ◌≤◌}
use Rattle.tape.proofs.Walks.{Left}
use Rattle.tape.proofs.said_as.Given as goal

abbrev pub invariant-loop-i : goal.invariant-loop-i
invariant-loop-i l = (l.from ≤ l.i) × (Left l.text l.tape l.class l.from l.called l.i ≡ Left l.text l.tape l.class l.from l.called l.to)
