-- `ended` meets its contract. Assumes nothing.
use mathlib.Core.Path.{sym, ap, ◌∙◌}
use native.Mathlib.Omega.{arith}
use lib.ListN.{length-take}
use lib.Seq.{length-take-le}
use Rattle.figures.proofs.Bytes.{renamed}
use Rattle.input_bytes.specs.Lines.{cells_of}
use Rattle.input_bytes.proofs.Endings.{ended_through, ended_refused, any_bad}
use Rattle.input_bytes.proofs.stops.ended.Goals as goal

pub slice_bounds-show_cells-end : goal.slice_bounds-show_cells-end
slice_bounds-show_cells-end c = sym (length-take-le _ _ (omega (arith, c.cells-n.ensures.1, c.requires.0)))

pub show_cells-requires : goal.show_cells-requires
show_cells-requires c = let e = length-take c.cells-n.result c.args.memory.now in omega (arith, c.cells-n.ensures.1, c.requires)

pub returns-in-Through : goal.returns-in-Through
returns-in-Through c =
    renamed c.show_cells.ensures (ended_through _ _ c.in-Through.is (c.cells-n.ensures.0 ∙ ap cells_of c.planned.ensures))
    (let e = length-take c.cells-n.result c.args.memory.now in omega (arith, c.cells-n.ensures.1))

pub returns-in-Stopped : goal.returns-in-Stopped
returns-in-Stopped c = renamed c.show_refusal.ensures (ended_refused _ _ _ c.in-Stopped.is) (omega arith)

pub returns-in-ActorCount : goal.returns-in-ActorCount
returns-in-ActorCount c = renamed c.show_bad.ensures (any_bad _ c.in-ActorCount.is) (omega arith)
