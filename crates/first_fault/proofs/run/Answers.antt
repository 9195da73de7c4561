-- `first_fault::run` ends: each turn goes on. Assumes nothing.
use native.Mathlib.Omega.{arith}
use mathlib.Core.Path.{sym, ◌∙◌}
use Rattle.first_fault.proofs.run.Goals as goal

pub slice_bounds-both-end : goal.slice_bounds-both-end
slice_bounds-both-end c = sym c.loop-at.invariant.1

pub loop-at-preserved : goal.loop-at-preserved
loop-at-preserved c = (omega (arith, c.both-at.ensures), c.both-at.auto.table ∙ c.loop-at.invariant.1)
