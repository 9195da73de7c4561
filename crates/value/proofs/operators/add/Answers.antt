-- `value::operators::add` meets its contract. Assumes nothing.
use Rattle.std.proofs.Common.{◌+◌, ◌∙◌}
use Rattle.language.specs.Values.{add_of}
use Rattle.bits.proofs.Laws.{again}
use Rattle.value.proofs.operators.add.Goals as goal

pub returns : goal.returns
unfolding add_of
returns c = c.low.ensures ∙ again (c.args.a + c.args.b) 64 c.args.w c.requires
