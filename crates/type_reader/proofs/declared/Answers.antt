-- `type_reader::declared` meets its contract. Assumes nothing.
use native.Mathlib.Omega.{arith}
use mathlib.Core.Path.{sym, ◌∙◌, refl}
use Rattle.tape.specs.Tape.{one_if, is_typed, flat_d}
use Rattle.readers.proofs.Lists.{on_none}
use Rattle.readers.proofs.Spells.{found_at}
use Rattle.type_reader.specs.Types.{there}
use Rattle.type_reader.proofs.Grammar.{declared_none, declared_some, typed_ok, typed_missed, typed_err}
use Rattle.readers.proofs.Laws.{same_err}
use Rattle.type_reader.proofs.declared.Goals as goal

pub returns-then-kind-ne-LESS : goal.returns-then-kind-ne-LESS
unfolding one_if is_typed flat_d
returns-then-kind-ne-LESS c = record {
  moved = omega (arith, c.requires);
  agrees = λ M f h. rw (declared_none M f _ (λ q. c.if-kind-ne-LESS.true (c.kind.ensures.is ∙ q))) (there refl on_none);
}

pub returns-in_err-x : goal.returns-in_err-x
returns-in_err-x c = rw (same_err c.from_residual.ensures.1) (record {
  moved = record { to = c.in_err-x.ensures.moved.to };
  agrees = λ M f h. rw (declared_some M f _ (sym c.kind.ensures.is ∙ c.if-kind-ne-LESS.false)) (typed_err M _ (c.in_err-x.ensures.agrees M f (omega (arith, c.requires))));
})

pub returns-in_err-y : goal.returns-in_err-y
returns-in_err-y c = rw (same_err c.from_residual-in_err-y.ensures.1) (record {
  moved = omega (arith, c.requires, c.in_ok-x.ensures.moved.to, c.in_err-y.ensures);
  agrees = λ M f h. rw (declared_some M f _ (sym c.kind.ensures.is ∙ c.if-kind-ne-LESS.false))
      (typed_missed M _ (c.in_ok-x.ensures.agrees M f (omega (arith, c.requires))) c.in_err-y.ensures);
})

pub returns : goal.returns
returns c = record {
  moved = omega (arith, c.requires, c.in_ok-x.ensures.moved.to, c.in_ok-y.ensures, found_at (omega arith) c.in_ok-y.ensures);
  agrees = λ M f h. rw (declared_some M f _ (sym c.kind.ensures.is ∙ c.if-kind-ne-LESS.false))
      (typed_ok M _ (c.in_ok-x.ensures.agrees M f (omega (arith, c.requires))) c.in_ok-y.ensures);
}
