-- `show_outputs` meets its contract: what is left is written after what was. Assumes nothing.
use mathlib.Core.Path.{refl}
use native.Mathlib.Omega.{arith}
use Rattle.figures.proofs.Bytes.{rest_more, rest_end}
use Rattle.cycle_line.proofs.Cycles.{outputs_start, outputs_next, outputs_over}
use Rattle.cycle_line.proofs.show_outputs.Goals as goal

pub loop-i-init : goal.loop-i-init
loop-i-init c = (c.ports-i-end.ensures.0, c.ports-i-end.ensures.1, outputs_start _ _ _ _ _ c.ports-i-end.ensures.0 c.ports-i-end.ensures.1 c.requires.1)

pub show_output-k-requires : goal.show_output-k-requires
show_output-k-requires c = omega (arith, c.loop-i.invariant.2.room)

pub loop-i-preserved : goal.loop-i-preserved
loop-i-preserved c = (
  c.loop-i.invariant.0,
  c.loop-i.invariant.1,
  rest_more c.loop-i.invariant.2 c.show_output-k.ensures (outputs_next _ _ _ _ _ _ (omega arith) c.port_at.ensures refl) (omega arith),
)

pub shape_of-out : goal.shape_of-out
shape_of-out c = c.loop-i.invariant.2.long

pub returns : goal.returns
returns c = rest_end c.loop-i.invariant.2 (outputs_over _ _ _ _ (omega arith))
