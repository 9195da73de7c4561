-- `memories_fit` meets its contract. Assumes nothing.
use native.Mathlib.Omega.{arith}
use mathlib.Core.Path.{refl}
use Rattle.judged.specs.Tests.{all_below, memory_fits}
use Rattle.judged.proofs.Firing.{below_next, cells_within}
use Rattle.judged.proofs.tests.memories_fit.Goals as goal

pub loop-m-init : goal.loop-m-init
unfolding all_below
loop-m-init c = refl

pub memory_fits-ok-requires : goal.memory_fits-ok-requires
memory_fits-ok-requires c = let k = cells_within c.args.plan.now c.loop-m.m c.args.n c.loop-m-test.true in omega arith

pub loop-m-preserved : goal.loop-m-preserved
loop-m-preserved c = below_next c.args.plan.now c.loop-m.m (memory_fits c.args.plan.now c.args.memory.now) c.loop-m.invariant c.memory_fits-ok.ensures
