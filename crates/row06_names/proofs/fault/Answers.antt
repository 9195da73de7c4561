-- `tape::fault` meets its contract: the walk over the items is row 6. Assumes nothing.
use native.Mathlib.Omega.{arith}
use mathlib.Core.Path.{◌∙◌}
use Rattle.row06_names.proofs.Whole.{earliest_fault}
use Rattle.row06_names.proofs.fault.Goals as goal

pub returns : goal.returns
returns c = λ ws a h. c.walk.ensures ∙ earliest_fault c.args.text.now c.args.tape.now c.args.n _ c.requires (omega arith) (omega arith) h
