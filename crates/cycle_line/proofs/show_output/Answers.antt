-- `show_output` meets its contract. Assumes nothing.
use native.Mathlib.Omega.{arith}
use Rattle.figures.proofs.Bytes.{renamed}
use Rattle.cycle_line.proofs.Cycles.{output_none, output_some}
use Rattle.cycle_line.proofs.show_output.Goals as goal

pub returns-then-kind-lt-OUTPUT : goal.returns-then-kind-lt-OUTPUT
returns-then-kind-lt-OUTPUT c = output_none _ _ _ _ c.if-kind-lt-OUTPUT.true

pub returns : goal.returns
returns c = renamed c.next_number.ensures (output_some _ _ c.if-kind-lt-OUTPUT.false) (omega arith)
