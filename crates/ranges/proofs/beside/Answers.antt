-- `ranges::beside` meets its contract. Assumes nothing.
use Rattle.language.specs.Values.{beside_of}
use Rattle.bits.proofs.Laws.{alone}
use Rattle.ranges.proofs.beside.Goals as goal

pub returns-else-n-lt64 : goal.returns-else-n-lt64
unfolding beside_of
returns-else-n-lt64 c = alone c.args.n 64 c.args.a c.args.b c.if-n-lt64.false c.requires
