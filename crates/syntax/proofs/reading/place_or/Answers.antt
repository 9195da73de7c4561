-- `syntax::reading::place_or` meets its contract. Assumes nothing.
use native.Mathlib.Omega.{arith}
use mathlib.Core.Path.{◌∙◌}
use Rattle.readers.specs.Marks.{count}
use Rattle.syntax.proofs.Whole.{place_here, place_end}
use Rattle.syntax.proofs.reading.place_or.Goals as goal

pub place-requires : goal.place-requires
unfolding count
place-requires c = omega (arith, c.requires)

pub returns-then-at-words : goal.returns-then-at-words
unfolding count
returns-then-at-words c = c.place.ensures ∙ place_here c.args.end c.args.words.now c.args.at (omega arith)

pub returns-else-at-words : goal.returns-else-at-words
unfolding count
returns-else-at-words c = place_end c.args.end c.args.words.now c.args.at (omega arith)
