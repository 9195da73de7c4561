-- `show` meets its contract. Assumes nothing.
use native.Mathlib.Omega.{arith}
use Rattle.figures.proofs.Bytes.{both, renamed}
use Rattle.cycle_line.proofs.Cycles.{shown_whole}
use Rattle.cycle_line.proofs.show.Goals as goal

pub returns : goal.returns
returns c =
    let number = c.number-k in
    let next_number = c.next_number-m in
    let show-outputs = c.show_outputs-e in
    renamed (both number.ensures (both next_number.ensures (both show-outputs.ensures c.put-2.ensures)))
    (shown_whole _ _ _ _ _ _ c.from.ensures c.from-2.ensures (omega arith)) (omega arith)
