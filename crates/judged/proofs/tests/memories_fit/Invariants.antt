-- `memories_fit` meets its contract: those below m are tested. Assumes nothing.
use mathlib.Core.Path.{◌≡◌}
use Rattle.judged.specs.Tests.{all_below, memory_fits}
use Rattle.judged.proofs.tests.memories_fit.Given as goal

abbrev pub invariant-loop-m : goal.invariant-loop-m
invariant-loop-m l = l.ok ≡ all_below l.plan l.m (memory_fits l.plan l.memory)
