-- `only` meets its contract: those that match are the one found and those that are left. Assumes nothing.
use Prim.Native.Nat.{◌-◌}
use mathlib.Core.Path.{◌≡◌}
use Rattle.judged.specs.Groups.{matching}
use Rattle.judged.proofs.Firing.{seen}
use Rattle.judged.proofs.groups.only.Given as goal

abbrev pub invariant-loop-r : goal.invariant-loop-r
invariant-loop-r l = matching l.plan l.mask l.first l.n ≡ seen l.found (matching l.plan l.mask l.r (l.r-end - l.r))
