-- `show_refusal` meets its contract. Assumes nothing.
use native.Mathlib.Omega.{arith}
use Rattle.figures.proofs.Bytes.{both, named, line_two}
use Rattle.input_bytes.proofs.stops.show_refusal.Goals as goal

pub returns : goal.returns
returns c =
    named {m = 42} (line_two _ _ _ _ c.from.ensures c.from-2.ensures) (omega arith)
    (both c.number-k.ensures (both c.next_number-e.ensures c.put.ensures))
