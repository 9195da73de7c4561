-- `head_reader::memories` meets its contract. Assumes nothing.
use mathlib.Core.Logic.{⊎_elim}
use Rattle.language.specs.Parser.{memory_p}
use Rattle.readers.proofs.Laws.{same_err}
use Rattle.readers.proofs.Lists.{list_more, list_fault, list_ends}
use Rattle.head_reader.proofs.Laws.{begins_reg, begins_ff, misses_store}
use Rattle.head_reader.proofs.memories.Goals as goal

pub returns-then-k-ne-FF : goal.returns-then-k-ne-FF
returns-then-k-ne-FF c = list_ends c.loop-at.invariant (misses_store c.kind-k.ensures.is c.if-k-ne-REG.true c.if-k-ne-FF.true)

pub returns-in_err-x : goal.returns-in_err-x
unfolding memory_p
returns-in_err-x c = rw (same_err c.from_residual.ensures.1) (list_fault c.loop-at.invariant (⊎_elim (λ w. begins_ff c.kind-k.ensures.is w.1) (λ w. begins_reg c.kind-k.ensures.is w) c.else-k-ne-REG.either) c.in_err-x.ensures)

pub loop-at-preserved : goal.loop-at-preserved
unfolding memory_p
loop-at-preserved c = list_more c.loop-at.invariant (⊎_elim (λ w. begins_ff c.kind-k.ensures.is w.1) (λ w. begins_reg c.kind-k.ensures.is w) c.else-k-ne-REG.either) c.in_ok-x.ensures
