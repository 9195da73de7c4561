-- `row08_types::seen_around` meets its contract: what is known so far, and the items left, come to the same. Assumes nothing.
use Rattle.std.proofs.Common.{◌≡◌, ◌≤◌, ◌*◌, take, drop}
use Rattle.row08_types.specs.Walk.{seen_from, bare}
use Rattle.row08_types.proofs.seen_around.Given as goal

abbrev pub invariant-loop-i : goal.invariant-loop-i
invariant-loop-i l = (l.waits ≤ l.i) × (l.s.lefts ≤ l.i) × (seen_from l.waits l.s (drop (3 * l.i) (take l.n l.tape)) ≡ seen_from 0 bare (drop (3 * l.from) (take l.n l.tape)))
