-- `check_items` meets its contract: midway, what is left of the items leads to the end of all. Assumes nothing.
use Prim.Native.Nat.{◌+◌, ◌*◌}
use mathlib.Core.Path.{◌≡◌}
use mathlib.Core.List.{[]}
use lib.ListN.{length, take, drop}
use Rattle.plan.specs.Items.{decode_all}
use Rattle.plan.specs.Sound.{check, check_all, rules_of, slots, waiting}
use Rattle.plan.specs.Waits.{top}
use Rattle.soundness.specs.Steps.{Standing}
use Rattle.soundness.proofs.Turns.{rest}
use Rattle.soundness.proofs.steps.check_items.Given as goal

abbrev pub invariant-loop-i : goal.invariant-loop-i
invariant-loop-i l =
    (length l.ws ≡ waiting) × (length l.ls ≡ slots) × Standing l.ws l.state.waits l.state.assigned
    × (check_all (rules_of l.plan l.present l.taken) (rest l.plan (l.from + 4 * l.i) l.items l.i) (check (top l.ws l.state.waits) l.ls l.state.assigned)
    ≡ check_all (rules_of l.plan l.present l.taken) (decode_all (take (4 * l.items) (drop l.from l.plan))) (check [] l.initial.ls 0))
