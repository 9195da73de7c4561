-- `row08_types::logs_before` meets its contract: the count so far, and the items left, come to the same. Assumes nothing.
use Rattle.std.proofs.Common.{◌≡◌, ◌+◌, ◌≤◌, ◌-◌}
use Rattle.row08_types.specs.Walk.{logs_over, passing, nodes_before}
use Rattle.row08_types.proofs.logs_before.Given as goal

abbrev pub invariant-loop-i : goal.invariant-loop-i
invariant-loop-i l = (l.s.aside + l.s.need + l.s.logs ≤ 1 + l.lefts + (l.at - l.i)) × (logs_over l.s (nodes_before l.tape l.i) ≡ logs_over (passing l.lefts) (nodes_before l.tape l.at))
