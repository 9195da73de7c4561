-- `head_reader::size` meets its contract. Assumes nothing.
use mathlib.Core.Path.{sym, ◌∙◌}
use native.Mathlib.Omega.{arith}
use Rattle.readers.proofs.Laws.{on_value}
use Rattle.readers.proofs.Lists.{on_none}
use Rattle.readers.specs.Meets.{read}
use Rattle.tape.specs.Tape.{flat_size}
use Rattle.head_reader.proofs.Laws.{size_number, size_none}
use Rattle.head_reader.proofs.size.Goals as goal

pub returns-then-kind-ne-NUMBER : goal.returns-then-kind-ne-NUMBER
unfolding flat_size
returns-then-kind-ne-NUMBER c = record { moved = omega (arith, c.requires); agrees = λ M f h. rw (size_none M _ (λ q. c.if-kind-ne-NUMBER.true (c.kind.ensures.is ∙ q))) (read on_none) }

pub returns : goal.returns
unfolding flat_size
returns c = record { moved = omega (arith, c.requires); agrees = λ M f h. rw (size_number M _ (sym c.kind.ensures.is ∙ c.if-kind-ne-NUMBER.false)) (read (on_value c.value.ensures c.put.ensures)) }
