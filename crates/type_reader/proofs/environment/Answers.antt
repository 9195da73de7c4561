-- `type_reader::environment` meets its contract. Assumes nothing.
use native.Mathlib.Omega.{arith}
use mathlib.Core.Path.{sym, ◌∙◌}
use Prim.Native.Nat.{◌-◌}
use Rattle.tape.specs.Tape.{flat_t}
use Rattle.readers.specs.Meets.{read, fault}
use Rattle.readers.proofs.Laws.{suc_of}
use Rattle.readers.proofs.Spells.{off_is, type_inside}
use Rattle.readers.proofs.Fixed.{s_dot}
use Rattle.type_reader.proofs.Grammar.{term_name, term_port, term_no_port}
use Rattle.type_reader.proofs.environment.Goals as goal

pub returns-then-kind-ne-DOT : goal.returns-then-kind-ne-DOT
unfolding flat_t
returns-then-kind-ne-DOT c = record {
  moved = omega arith;
  agrees = λ M f h. rw (suc_of f (omega arith)) (rw (term_name M (f - 1) _ c.requires.kind) (rw (off_is M "." 46 _ s_dot _ _ (λ q. c.if-kind-ne-DOT.true (c.kind.ensures.is ∙ q))) (read c.put.ensures)));
}

pub returns-then-not-the_type : goal.returns-then-not-the_type
returns-then-not-the_type c = record {
  moved = omega arith;
  agrees = λ M f h. rw (suc_of f (omega arith)) (rw (term_no_port M (f - 1) _ c.requires.kind (sym c.kind.ensures.is ∙ c.if-kind-ne-DOT.false) (sym c.the_type.ensures ∙ c.if-not-the_type.true)) fault);
}

pub returns : goal.returns
unfolding flat_t
returns c = let i = type_inside _ _ (sym c.the_type.ensures ∙ c.if-not-the_type.false) in record {
  moved = omega arith;
  agrees = λ M f h. rw (suc_of f (omega arith)) (rw (term_port M (f - 1) _ c.requires.kind (sym c.kind.ensures.is ∙ c.if-kind-ne-DOT.false) (sym c.the_type.ensures ∙ c.if-not-the_type.false)) (read c.put-2.ensures));
}
