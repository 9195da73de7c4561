-- `head_reader::declarations` meets its contract. Assumes nothing.
use Prim.Native.Nat.{suc}
use mathlib.Core.Logic.{⊎_elim}
use mathlib.Core.Path.{refl}
use native.Mathlib.Omega.{arith}
use Rattle.readers.proofs.Laws.{on_more, moved_more, bind_ok, bind_err, same_err}
use Rattle.readers.specs.Meets.{fault}
use Rattle.tape.specs.Tape.{flat_memory, flats}
use Rattle.head_reader.proofs.Laws.{begins_input, begins_output, misses_way, declarations_ports, declarations_none, last_part}
use Rattle.head_reader.specs.Heads.{flat_head}
use Rattle.head_reader.proofs.declarations.Goals as goal

pub returns-then-k-ne-OUTPUT : goal.returns-then-k-ne-OUTPUT
returns-then-k-ne-OUTPUT c = record { moved = omega (arith, c.requires); agrees = λ M f h n l on. rw (declarations_none M _ f n l (misses_way c.kind-k.ensures.is c.if-k-ne-INPUT.true c.if-k-ne-OUTPUT.true)) fault }

pub returns-in_err-x : goal.returns-in_err-x
returns-in_err-x c = rw (same_err c.from_residual.ensures.1) (record {
  moved = record { to = c.in_err-x.ensures.moved.to };
  agrees = λ M f h n l on. rw (declarations_ports M _ f n l (⊎_elim (λ w. begins_output c.kind-k.ensures.is w.1) (λ w. begins_input c.kind-k.ensures.is w) c.else-k-ne-INPUT.either)) (bind_err _ _ (c.in_err-x.ensures.agrees M (suc f) (omega arith)));
})

pub returns : goal.returns
unfolding flat_head
returns c = let w = c.in_ok-x.ensures.moved.to in record {
  moved = moved_more w c.memories.ensures.moved;
  agrees = λ M f h n l on. rw (declarations_ports M _ f n l (⊎_elim (λ w. begins_output c.kind-k.ensures.is w.1) (λ w. begins_input c.kind-k.ensures.is w) c.else-k-ne-INPUT.either))
      (bind_ok _ _ (c.in_ok-x.ensures.agrees M (suc f) (omega arith)) (λ ps on₁. last_part (flats flat_memory) flat_head (λ ms. record { called = n; signature = l; ports = ps; memories = ms }) (λ ms. refl) (on_more on on₁) (c.memories.ensures.agrees M f (omega arith))));
}
