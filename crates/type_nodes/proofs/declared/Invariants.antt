-- `type_nodes::declared` meets its contract: the counts so far, and the items left, come to the same. Assumes nothing.
use Rattle.std.proofs.Common.{◌≡◌, ◌≤◌, ◌*◌, take, drop}
use Rattle.type_nodes.specs.Codes.{tally, counts_over}
use Rattle.type_nodes.proofs.declared.Given as goal

abbrev pub invariant-loop-i : goal.invariant-loop-i
invariant-loop-i l = (l.c.ports ≤ l.i) × (l.c.memories ≤ l.i) × (counts_over l.c (drop (3 * l.i) (take l.n l.tape)) ≡ counts_over (tally 0 0) (take l.n l.tape))
