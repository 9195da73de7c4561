-- `row10_widths::codes::type_code` meets its contract: the slot so far, and the items left, come to the same nodes. Assumes nothing.
use mathlib.Core.Path.{◌≡◌}
use mathlib.Core.List.{[]}
use Prim.Native.Nat.{◌≤◌, ◌*◌}
use lib.ListN.{length, take, drop}
use Rattle.type_nodes.specs.Codes.{env_in, sought_in}
use Rattle.type_codes.proofs.type_code.Given as goal

abbrev pub invariant-loop-i : goal.invariant-loop-i
invariant-loop-i l = (l.len ≤ 64) × (length l.code ≡ length l.initial.code) × (take l.at l.code ≡ take l.at l.initial.code) × (sought_in (env_in l.text l.tape l.bound l.ports) l.g (take l.len (drop l.at l.code)) (drop (3 * l.i) (take l.n l.tape)) ≡ sought_in (env_in l.text l.tape l.bound l.ports) l.initial.g [] (take l.n l.tape))
