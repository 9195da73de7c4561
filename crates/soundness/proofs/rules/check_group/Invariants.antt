-- `check_group` meets its contract: midway, what is left of the rules leads to what all assign. Assumes nothing.
use Prim.Native.Nat.{◌+◌, ◌-◌, ◌<◌}
use mathlib.Core.Path.{◌≡◌}
use lib.ListN.{length}
use Rattle.plan.specs.Layout.{code_before, code_from}
use Rattle.plan.specs.Sound.{group_check, waiting}
use Rattle.soundness.specs.Steps.{masks}
use Rattle.soundness.proofs.rules.check_group.Given as goal

abbrev pub invariant-loop-i : goal.invariant-loop-i
invariant-loop-i l =
    (l.mine < masks) × (length l.ws ≡ waiting) × (group_check l.plan l.taken l.mine (l.first + l.i) (l.count - l.i) ≡ group_check l.plan l.taken l.taken l.first l.count)
    × (l.from ≡ code_from l.plan + 1 + code_before l.plan (l.first + l.i))
