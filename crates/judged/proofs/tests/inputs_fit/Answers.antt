-- `inputs_fit` meets its contract. Assumes nothing.
use mathlib.Core.Path.{refl}
use Rattle.judged.specs.Tests.{all_below, input_fits}
use Rattle.judged.proofs.Firing.{below_next}
use Rattle.judged.proofs.tests.inputs_fit.Goals as goal

pub loop-i-init : goal.loop-i-init
unfolding all_below
loop-i-init c = refl

pub loop-i-preserved : goal.loop-i-preserved
loop-i-preserved c = below_next c.args.plan.now c.loop-i.i (input_fits c.args.plan.now c.args.mask c.args.values.now) c.loop-i.invariant c.input_fits-ok.ensures
