-- `bits::complement` meets its contract. Assumes nothing.
use mathlib.Core.Path.{◌∙◌}
use Rattle.bits.proofs.Laws.{complement_cut}
use Rattle.language.specs.Values.{complement}
use Rattle.bits.proofs.complement.Goals as goal

pub returns : goal.returns
unfolding complement
returns c = c.low.ensures ∙ complement_cut 64 c.args.w c.args.a c.requires.0 c.requires.1
