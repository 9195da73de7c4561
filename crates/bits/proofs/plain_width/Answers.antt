-- `bits::plain_width` meets its contract. Assumes nothing.
use mathlib.Core.Path.{ap, ◌∙◌}
use native.Mathlib.Omega.{arith}
use lib.Count.{leading_le}
use Rattle.language.specs.Types.{fewest}
use Rattle.language.specs.Values.{plain_width}
use Rattle.language.proofs.Fewest.{fewest_none, fewest_some, leading_fewest}
use Rattle.bits.proofs.plain_width.Goals as goal

pub overflow_sub-result : goal.overflow_sub-result
overflow_sub-result c = leading_le 64 c.args.n

pub returns-then-n-eq0 : goal.returns-then-n-eq0
unfolding plain_width
returns-then-n-eq0 c = omega (arith, ap fewest c.if-n-eq0.true ∙ fewest_none)

pub returns-else-n-eq0 : goal.returns-else-n-eq0
unfolding plain_width
returns-else-n-eq0 c = omega (arith, leading_fewest 64 c.args.n c.if-n-eq0.false c.ranges.n.fits, fewest_some c.args.n c.if-n-eq0.false)
