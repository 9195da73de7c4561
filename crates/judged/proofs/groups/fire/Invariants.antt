-- `fire` meets its contract: the rules of the groups below g stand in `fired`. Assumes nothing.
use Prim.Native.Nat.{◌-◌}
use mathlib.Core.Path.{◌≡◌}
use lib.ListN.{take}
use Rattle.plan.specs.Layout.{rules_before}
use Rattle.judged.specs.Groups.{firing}
use Rattle.judged.proofs.Firing.{after}
use Rattle.judged.proofs.groups.fire.Given as goal

abbrev pub invariant-loop-g : goal.invariant-loop-g
invariant-loop-g l = record {
  before : l.first ≡ rules_before l.plan l.g;
  fired : firing l.plan l.mask 0 l.groups ≡ after l.plan (take l.g l.fired) (firing l.plan l.mask l.g (l.groups - l.g));
}
