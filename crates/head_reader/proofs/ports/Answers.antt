-- `head_reader::ports` meets its contract. Assumes nothing.
use mathlib.Core.Logic.{⊎_elim}
use Rattle.readers.proofs.Laws.{same_err}
use Rattle.readers.proofs.Lists.{list_more, list_fault, list_ends}
use Rattle.head_reader.proofs.Laws.{begins_input, begins_output, misses_way}
use Rattle.head_reader.proofs.ports.Goals as goal

pub returns-then-k-ne-OUTPUT : goal.returns-then-k-ne-OUTPUT
returns-then-k-ne-OUTPUT c = list_ends c.loop-at.invariant (misses_way c.kind-k.ensures.is c.if-k-ne-INPUT.true c.if-k-ne-OUTPUT.true)

pub returns-in_err-x : goal.returns-in_err-x
returns-in_err-x c = rw (same_err c.from_residual.ensures.1) (list_fault c.loop-at.invariant (⊎_elim (λ w. begins_output c.kind-k.ensures.is w.1) (λ w. begins_input c.kind-k.ensures.is w) c.else-k-ne-INPUT.either) c.in_err-x.ensures)

pub loop-at-preserved : goal.loop-at-preserved
loop-at-preserved c = list_more c.loop-at.invariant (⊎_elim (λ w. begins_output c.kind-k.ensures.is w.1) (λ w. begins_input c.kind-k.ensures.is w) c.else-k-ne-INPUT.either) c.in_ok-x.ensures
