-- `check_groups` meets its contract: midway, the groups that are left lead to the test of all. Assumes nothing.
use Prim.Native.Nat.{◌-◌, ◌<◌}
use mathlib.Core.Path.{◌≡◌}
use lib.ListN.{length}
use Rattle.plan.specs.Layout.{rules_before}
use Rattle.plan.specs.Sound.{groups_check, waiting}
use Rattle.soundness.specs.Steps.{masks}
use Rattle.soundness.proofs.rules.check_groups.Given as goal

abbrev pub invariant-loop-g : goal.invariant-loop-g
invariant-loop-g l = (l.taken < masks) × (l.first ≡ rules_before l.plan l.g) × (length l.ws ≡ waiting) × (groups_check l.plan l.taken l.g (l.groups - l.g) ≡ groups_check l.plan 0 0 l.groups)
