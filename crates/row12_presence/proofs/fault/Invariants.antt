-- `row12_presence::fault` meets its contract. The loop's invariant: what is left of the walk gives the answer. Assumes nothing.
use mathlib.Core.Path.{◌≡◌}
use Prim.Native.Nat.{◌*◌}
use lib.ListN.{take, drop}
use Rattle.std.specs.Prelude.{None}
use Rattle.row12_presence.specs.Walk.{walk, begin}
use Rattle.row12_presence.proofs.fault.Given as goal

abbrev pub invariant-loop-i : goal.invariant-loop-i
invariant-loop-i l = walk l.met (drop (6 * l.i) (take (6 * l.many) l.items)) l.first ≡ walk begin (take (6 * l.many) l.items) None
