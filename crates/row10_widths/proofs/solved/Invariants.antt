-- `row10_widths::solved` meets its contract: the slots so far hold the wanted widths so far, and all of them are what is solved. Assumes nothing.
use mathlib.Core.Path.{◌≡◌}
use Prim.Native.Nat.{◌+◌, ◌≤◌, ◌*◌}
use lib.ListN.{length}
use Rattle.type_nodes.specs.Codes.{env_in, Slotted}
use Rattle.row10_widths.proofs.solved.Given as goal

abbrev pub invariant-loop-i : goal.invariant-loop-i
invariant-loop-i l = (l.all ≤ 24) × (l.ports ≤ 16) × (3 * l.ports + 3 ≤ length l.tape) × (length l.code ≡ 1536) × (length l.starts ≡ 24) × (length l.ends ≡ 24) × Slotted (env_in l.text l.tape l.bound l.ports) l.n l.code l.starts l.ends l.i
