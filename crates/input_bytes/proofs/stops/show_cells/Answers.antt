-- `show_cells` meets its contract. Assumes nothing.
use native.Mathlib.Omega.{arith}
use mathlib.Core.Path.{sym, ap, ◌∙◌}
use Rattle.language.specs.Worked.{line}
use Rattle.figures.proofs.Bytes.{both, renamed, line_none, line_is}
use Rattle.input_bytes.proofs.stops.show_cells.Goals as goal

pub returns-in-None : goal.returns-in-None
returns-in-None c = renamed c.put.ensures (line_none _ c.in-None.ensures.cases) (omega arith)

pub returns-in-Some : goal.returns-in-Some
returns-in-Some c =
    let (e, l) = c.in-Some.ensures.cases in
    renamed (both c.number-k.ensures (both c.numbers-e.ensures c.put-in-Some.ensures)) (sym (line_is c.in-Some.first.now c.in-Some.others.now) ∙ ap line (sym e)) (omega (arith, l))
