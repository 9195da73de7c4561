-- `inputs_fit` meets its contract: those below i are tested. Assumes nothing.
use mathlib.Core.Path.{◌≡◌}
use Rattle.judged.specs.Tests.{all_below, input_fits}
use Rattle.judged.proofs.tests.inputs_fit.Given as goal

abbrev pub invariant-loop-i : goal.invariant-loop-i
invariant-loop-i l = l.ok ≡ all_below l.plan l.i (input_fits l.plan l.mask l.values)
