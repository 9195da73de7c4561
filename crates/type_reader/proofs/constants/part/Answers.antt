-- `type_reader::constants::part` meets its contract. Assumes nothing.
use native.Mathlib.Omega.{arith}
use mathlib.Core.Path.{sym, ◌∙◌}
use Rattle.readers.specs.Meets.{read}
use Rattle.readers.proofs.Laws.{on_more, moved_more, bind_ok, bind_err, same_err}
use Rattle.type_reader.proofs.Operands.{part_more, part_stop}
use Rattle.type_reader.proofs.constants.part.Goals as goal

pub returns-then-kind-ne-BRACKET : goal.returns-then-kind-ne-BRACKET
returns-then-kind-ne-BRACKET c = record { moved = omega (arith, c.requires); agrees = λ M f h e on. rw (part_stop M f _ e (λ q. c.if-kind-ne-BRACKET.true (c.kind.ensures.is ∙ q))) (read on) }

pub returns-in_err-x : goal.returns-in_err-x
returns-in_err-x c = rw (same_err c.from_residual.ensures.1) (record {
  moved = record { to = c.in_err-x.ensures.moved.to };
  agrees = λ M f h e on. rw (part_more M f _ e (sym c.kind.ensures.is ∙ c.if-kind-ne-BRACKET.false)) (bind_err _ _ (c.in_err-x.ensures.agrees M f (omega (arith, c.requires))));
})

pub returns : goal.returns
returns c = let w = c.in_ok-x.ensures.moved.to in record {
  moved = moved_more (omega (arith, c.requires)) c.positions.ensures.moved;
  agrees = λ M f h e on. rw (part_more M f _ e (sym c.kind.ensures.is ∙ c.if-kind-ne-BRACKET.false))
      (bind_ok _ _ (c.in_ok-x.ensures.agrees M f (omega (arith, c.requires)))
      (λ i on₁. c.positions.ensures.agrees M f (omega (arith, c.requires)) e i (on_more on on₁)));
}
