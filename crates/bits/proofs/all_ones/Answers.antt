-- `bits::all_ones` meets its contract. Assumes nothing.
use mathlib.Core.Path.{◌∙◌}
use Rattle.bits.proofs.Laws.{ones_cut}
use Rattle.bits.proofs.all_ones.Goals as goal

pub returns : goal.returns
returns c = c.low.ensures ∙ ones_cut 64 c.args.w c.requires
