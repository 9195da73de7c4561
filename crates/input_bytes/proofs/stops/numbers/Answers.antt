-- `numbers` meets its contract: what is left is written after what was. Assumes nothing.
use native.Mathlib.Omega.{arith}
use Rattle.figures.proofs.Bytes.{rest_start, rest_more, rest_end, blanked_next, blanked_over, fewer, some_left}
use Rattle.input_bytes.proofs.stops.numbers.Goals as goal

pub loop-n-init : goal.loop-n-init
loop-n-init c = rest_start _ _ _ _ _ c.requires (omega arith)

pub next_number-k-requires : goal.next_number-k-requires
next_number-k-requires c = some_left _ _ _ _ c.loop-n-test.true c.loop-n.invariant.room

pub loop-n-preserved : goal.loop-n-preserved
loop-n-preserved c = rest_more c.loop-n.invariant c.next_number-k.ensures (blanked_next _ _ c.loop-n-test.true) (fewer _ _ c.loop-n-test.true)

pub shape_of-out : goal.shape_of-out
shape_of-out c = c.loop-n.invariant.long

pub returns : goal.returns
returns c = rest_end c.loop-n.invariant (blanked_over _ _ c.loop-n-test.false)
