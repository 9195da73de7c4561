-- The cycle of the expressions meets its contracts. Assumes nothing.
use native.Mathlib.Omega.{arith}
use mathlib.Core.Path.{sym, ap, ◌∙◌}
use Prim.Native.Nat.{◌-◌}
use Rattle.language.specs.Tree.{inside, choice, beside, binary}
use Rattle.tape.specs.Tape.{flat}
use Rattle.readers.specs.Marks.{is_mark}
use Rattle.readers.specs.Meets.{read, fault}
use Rattle.readers.proofs.Laws.{on_value, suc_of2, suc_of, on_more, moved_more, bind_ok, bind_err, same_err}
use Rattle.readers.proofs.Spells.{expect_found, expect_missed, until_ok, until_missed, until_err, found_at}
use Rattle.readers.proofs.Fixed.{s_open, s_close, s_brace, s_unbrace, s_bracket, s_unbracket, s_colon, s_then, s_else, s_arrow, s_bar}
use Rattle.expression_reader.proofs.Operands.{operand_inside, operand_joined, operand_case, operand_unary, operand_none, operand_copies, operand_cell, operand_read, parts_more, parts_stop, arms_label, arms_default, arms_none, expr_if, expr_bin, bin_law, cond_more, cond_stop, bin_ends, bin_stop, bin_more}
use Rattle.expression_reader.proofs.Levels.{operator_of, mark_of_law, level_as, level_below, operator_inside, mark_inside}
use Rattle.expression_reader.proofs.+expressions.Goals as goal
use Rattle.expression_reader.proofs.+expressions.Goals.{operators-then-arm_ends-via-then-arm_ends, operators-then-arm_ends-via-else-arm_ends+then-l-below}

pub arms-returns-in_default : goal.arms-returns-in_default
arms-returns-in_default t c = record {
  moved = omega (arith, c.requires);
  agrees = λ M f h. rw (suc_of f (omega (arith, c.requires))) (rw (arms_none M (f - 1) c.args.at (λ q. omega (arith, c.kind.ensures.is ∙ q)) (λ q. omega (arith, c.kind.ensures.is ∙ q))) fault);
}

pub binary-returns-in_err-x : goal.binary-returns-in_err-x
binary-returns-in_err-x t c = rw (same_err c.from_residual.ensures.1) (record {
  moved = record { to = c.in_err-x.ensures.moved.to };
  agrees = λ M f h. rw (suc_of f (omega (arith, c.requires))) (rw (bin_law M (f - 1) _ _ _)
      (bind_err _ _ (c.in_err-x.ensures.agrees M (f - 1) (omega (arith, c.requires)))));
})

pub binary-returns : goal.binary-returns
binary-returns t c = record {
  moved = moved_more c.in_ok-x.ensures.moved.to c.operators.ensures.moved;
  agrees = λ M f h. rw (suc_of f (omega (arith, c.requires))) (rw (bin_law M (f - 1) _ _ _)
      (bind_ok _ _ (c.in_ok-x.ensures.agrees M (f - 1) (omega (arith, c.requires))) (λ a on₁.
      c.operators.ensures.agrees M (f - 1) (omega (arith, c.requires, c.in_ok-x.ensures.moved.to)) a on₁)));
}

pub choices-returns-in_err-x : goal.choices-returns-in_err-x
choices-returns-in_err-x t c = rw (same_err c.from_residual.ensures.1) (record {
  moved = record { to = c.in_err-x.ensures.moved.to };
  agrees = λ M f h e on. c.loop-items.invariant.goes M _ _ _ _ (λ a on f h. rw (suc_of f (omega (arith, c.loop-items.invariant.went))) (rw (cond_more M (f - 1) _ _ a (sym c.kind.ensures.is ∙ c.loop-items-test.true))
      (until_err M s_colon _ _ (c.in_err-x.ensures.agrees M (f - 1) (omega (arith, c.loop-items.invariant.went)))))) e on f h;
})

pub choices-returns-in_err-x-2 : goal.choices-returns-in_err-x-2
choices-returns-in_err-x-2 t c = rw (same_err c.from_residual-in_err-x-2.ensures.1) (record {
  moved = omega (arith, c.in_ok-x.ensures.moved.to, c.in_err-x-2.ensures);
  agrees = λ M f h e on. c.loop-items.invariant.goes M _ _ _ _ (λ a on f h. rw (suc_of f (omega (arith, c.loop-items.invariant.went))) (rw (cond_more M (f - 1) _ _ a (sym c.kind.ensures.is ∙ c.loop-items-test.true))
      (until_missed M s_colon _ _ (c.in_ok-x.ensures.agrees M (f - 1) (omega (arith, c.loop-items.invariant.went))) c.in_err-x-2.ensures))) e on f h;
})

pub choices-returns-in_err-x-3 : goal.choices-returns-in_err-x-3
choices-returns-in_err-x-3 t c = rw (same_err c.from_residual-in_err-x-3.ensures.1) (record {
  moved = record { to = c.in_err-x-3.ensures.moved.to };
  agrees = λ M f h e on. c.loop-items.invariant.goes M _ _ _ _ (λ a on f h. rw (suc_of f (omega (arith, c.loop-items.invariant.went))) (rw (cond_more M (f - 1) _ _ a (sym c.kind.ensures.is ∙ c.loop-items-test.true))
      (until_ok M s_colon _ _ (c.in_ok-x.ensures.agrees M (f - 1) (omega (arith, c.loop-items.invariant.went))) c.in_ok-x-2.ensures (λ d p on₁.
      bind_err _ _ (c.in_err-x-3.ensures.agrees M (f - 1) (omega (arith, c.loop-items.invariant.went, c.in_ok-x.ensures.moved.to, c.in_ok-x-2.ensures))))))) e on f h;
})

pub choices-binary-requires : goal.choices-binary-requires
choices-binary-requires t c = let i = found_at (omega arith) c.in_ok-x-2.ensures in (omega (arith, c.requires, c.in_ok-x.ensures.moved.to, c.in_ok-x-2.ensures), (omega (arith, c.requires, c.in_ok-x.ensures.moved.to, c.in_ok-x-2.ensures), omega arith))

pub choices-loop-items-preserved : goal.choices-loop-items-preserved
unfolding flat
choices-loop-items-preserved t c = let w = c.in_ok-x.ensures.moved.to in let u = c.in_ok-x-3.ensures.moved.to in record {
  went = omega (arith, c.loop-items.invariant.went, c.in_ok-x-2.ensures);
  goes = λ M s b r t' k. c.loop-items.invariant.goes M s b r t' (λ a on f h. rw (suc_of f (omega (arith, c.loop-items.invariant.went))) (rw (cond_more M (f - 1) _ _ a (sym c.kind.ensures.is ∙ c.loop-items-test.true))
      (until_ok M s_colon _ _ (c.in_ok-x.ensures.agrees M (f - 1) (omega (arith, c.loop-items.invariant.went))) c.in_ok-x-2.ensures (λ d p on₁.
      bind_ok _ _ (c.in_ok-x-3.ensures.agrees M (f - 1) (omega (arith, c.loop-items.invariant.went, c.in_ok-x.ensures.moved.to, c.in_ok-x-2.ensures))) (λ e on₂. k (choice a d e) (on_more (on_more (on_more on on₁) on₂) c.emit.ensures) (f - 1) (omega (arith, c.in_ok-x-2.ensures)))))));
}

pub choices-returns : goal.choices-returns
choices-returns t c = record {
  moved = record { to = c.loop-items.invariant.went };
  agrees = λ M f h e on. c.loop-items.invariant.goes M _ _ _ _ (λ a on f h. rw (suc_of f (omega (arith, c.loop-items.invariant.went))) (rw (cond_stop M (f - 1) _ _ a (λ q. c.loop-items-test.false (c.kind.ensures.is ∙ q))) (read on))) e on f h;
}

pub default-expr-requires : goal.default-expr-requires
default-expr-requires t c = omega (arith, c.requires, c.in_ok-x.ensures, found_at (omega arith) c.in_ok-x.ensures)

pub default-returns-in_err-x : goal.default-returns-in_err-x
default-returns-in_err-x t c = rw (same_err c.from_residual.ensures.1) (record {
  moved = omega (arith, c.requires, c.in_err-x.ensures);
  agrees = λ M f h. rw (suc_of f (omega (arith, c.requires))) (rw (arms_default M (f - 1) _ c.requires.kind)
      (expect_missed M s_arrow _ c.in_err-x.ensures));
})

pub default-returns-in_err-y : goal.default-returns-in_err-y
default-returns-in_err-y t c = rw (same_err c.from_residual-in_err-y.ensures.1) (record {
  moved = record { to = c.in_err-y.ensures.moved.to };
  agrees = λ M f h. rw (suc_of f (omega (arith, c.requires))) (rw (arms_default M (f - 1) _ c.requires.kind)
      (rw (expect_found M s_arrow _ c.in_ok-x.ensures)
      (until_err M s_unbrace _ _ (c.in_err-y.ensures.agrees M (f - 1) (omega (arith, c.requires, c.in_ok-x.ensures, found_at (omega arith) c.in_ok-x.ensures))))));
})

pub default-returns-in_err-z : goal.default-returns-in_err-z
default-returns-in_err-z t c = rw (same_err c.from_residual-in_err-z.ensures.1) (record {
  moved = omega (arith, c.requires, c.in_ok-x.ensures, found_at (omega arith) c.in_ok-x.ensures, c.in_ok-y.ensures.moved.to, c.in_err-z.ensures);
  agrees = λ M f h. rw (suc_of f (omega (arith, c.requires))) (rw (arms_default M (f - 1) _ c.requires.kind)
      (rw (expect_found M s_arrow _ c.in_ok-x.ensures)
      (until_missed M s_unbrace _ _ (c.in_ok-y.ensures.agrees M (f - 1) (omega (arith, c.requires, c.in_ok-x.ensures, found_at (omega arith) c.in_ok-x.ensures))) c.in_err-z.ensures)));
})

pub default-returns : goal.default-returns
unfolding flat
default-returns t c = record {
  moved = omega (arith, c.requires, c.in_ok-x.ensures, found_at (omega arith) c.in_ok-x.ensures, c.in_ok-y.ensures.moved.to, c.in_ok-z.ensures, found_at (omega arith) c.in_ok-z.ensures, c.put.ensures);
  agrees = λ M f h. rw (suc_of f (omega (arith, c.requires))) (rw (arms_default M (f - 1) _ c.requires.kind)
      (rw (expect_found M s_arrow _ c.in_ok-x.ensures)
      (until_ok M s_unbrace _ _ (c.in_ok-y.ensures.agrees M (f - 1) (omega (arith, c.requires, c.in_ok-x.ensures, found_at (omega arith) c.in_ok-x.ensures))) c.in_ok-z.ensures (λ a p on₁.
      read (on_more on₁ c.put.ensures)))));
}

pub either-returns-in_err-x : goal.either-returns-in_err-x
either-returns-in_err-x t c = rw (same_err c.from_residual.ensures.1) (record {
  moved = record { to = c.in_err-x.ensures.moved.to };
  agrees = λ M f h. rw (suc_of f (omega (arith, c.requires))) (rw (expr_if M (f - 1) _ _ c.requires.kind)
      (until_err M s_then _ _ (c.in_err-x.ensures.agrees M (f - 1) (omega (arith, c.requires)))));
})

pub either-returns-in_err-then : goal.either-returns-in_err-then
either-returns-in_err-then t c = rw (same_err c.from_residual-in_err-then.ensures.1) (record {
  moved = omega (arith, c.requires, c.in_ok-x.ensures.moved.to, c.in_err-then.ensures);
  agrees = λ M f h. rw (suc_of f (omega (arith, c.requires))) (rw (expr_if M (f - 1) _ _ c.requires.kind)
      (until_missed M s_then _ _ (c.in_ok-x.ensures.agrees M (f - 1) (omega (arith, c.requires))) c.in_err-then.ensures));
})

pub either-returns-in_err-y : goal.either-returns-in_err-y
either-returns-in_err-y t c = rw (same_err c.from_residual-in_err-y.ensures.1) (record {
  moved = record { to = c.in_err-y.ensures.moved.to };
  agrees = λ M f h. rw (suc_of f (omega (arith, c.requires))) (rw (expr_if M (f - 1) _ _ c.requires.kind)
      (until_ok M s_then _ _ (c.in_ok-x.ensures.agrees M (f - 1) (omega (arith, c.requires))) c.in_ok-then.ensures (λ a p on₁.
      until_err M s_else _ _ (c.in_err-y.ensures.agrees M (f - 1) (omega (arith, c.requires, c.in_ok-x.ensures.moved.to, c.in_ok-then.ensures, found_at (omega arith) c.in_ok-then.ensures))))));
})

pub either-returns-in_err-other : goal.either-returns-in_err-other
either-returns-in_err-other t c = rw (same_err c.from_residual-in_err-other.ensures.1) (record {
  moved = omega (arith, c.requires, c.in_ok-x.ensures.moved.to, c.in_ok-then.ensures, found_at (omega arith) c.in_ok-then.ensures, c.in_ok-y.ensures.moved.to, c.in_err-other.ensures);
  agrees = λ M f h. rw (suc_of f (omega (arith, c.requires))) (rw (expr_if M (f - 1) _ _ c.requires.kind)
      (until_ok M s_then _ _ (c.in_ok-x.ensures.agrees M (f - 1) (omega (arith, c.requires))) c.in_ok-then.ensures (λ a p on₁.
      until_missed M s_else _ _ (c.in_ok-y.ensures.agrees M (f - 1) (omega (arith, c.requires, c.in_ok-x.ensures.moved.to, c.in_ok-then.ensures, found_at (omega arith) c.in_ok-then.ensures))) c.in_err-other.ensures)));
})

pub either-returns-in_err-z : goal.either-returns-in_err-z
either-returns-in_err-z t c = rw (same_err c.from_residual-in_err-z.ensures.1) (record {
  moved = record { to = c.in_err-z.ensures.moved.to };
  agrees = λ M f h. rw (suc_of f (omega (arith, c.requires))) (rw (expr_if M (f - 1) _ _ c.requires.kind)
      (until_ok M s_then _ _ (c.in_ok-x.ensures.agrees M (f - 1) (omega (arith, c.requires))) c.in_ok-then.ensures (λ a p on₁.
      until_ok M s_else _ _ (c.in_ok-y.ensures.agrees M (f - 1) (omega (arith, c.requires, c.in_ok-x.ensures.moved.to, c.in_ok-then.ensures, found_at (omega arith) c.in_ok-then.ensures))) c.in_ok-other.ensures (λ b p on₂.
      bind_err _ _ (c.in_err-z.ensures.agrees M (f - 1) (omega (arith, c.requires, c.in_ok-x.ensures.moved.to, c.in_ok-then.ensures, found_at (omega arith) c.in_ok-then.ensures, c.in_ok-y.ensures.moved.to, c.in_ok-other.ensures, found_at (omega arith) c.in_ok-other.ensures)))))));
})

pub either-expr-requires-2 : goal.either-expr-requires-2
either-expr-requires-2 t c = omega (arith, c.requires, c.in_ok-x.ensures.moved.to, c.in_ok-then.ensures, found_at (omega arith) c.in_ok-then.ensures)

pub either-expr-requires-3 : goal.either-expr-requires-3
either-expr-requires-3 t c = omega (arith, c.requires, c.in_ok-x.ensures.moved.to, c.in_ok-then.ensures, found_at (omega arith) c.in_ok-then.ensures, c.in_ok-y.ensures.moved.to, c.in_ok-other.ensures, found_at (omega arith) c.in_ok-other.ensures)

pub either-returns : goal.either-returns
unfolding flat
either-returns t c = record {
  moved = omega (arith, c.requires, c.in_ok-x.ensures.moved.to, c.in_ok-then.ensures, found_at (omega arith) c.in_ok-then.ensures, c.in_ok-y.ensures.moved.to, c.in_ok-other.ensures, found_at (omega arith) c.in_ok-other.ensures, c.in_ok-z.ensures.moved.to, c.put.ensures);
  agrees = λ M f h. rw (suc_of f (omega (arith, c.requires))) (rw (expr_if M (f - 1) _ _ c.requires.kind)
      (until_ok M s_then _ _ (c.in_ok-x.ensures.agrees M (f - 1) (omega (arith, c.requires))) c.in_ok-then.ensures (λ a p on₁.
      until_ok M s_else _ _ (c.in_ok-y.ensures.agrees M (f - 1) (omega (arith, c.requires, c.in_ok-x.ensures.moved.to, c.in_ok-then.ensures, found_at (omega arith) c.in_ok-then.ensures))) c.in_ok-other.ensures (λ b p on₂.
      bind_ok _ _ (c.in_ok-z.ensures.agrees M (f - 1) (omega (arith, c.requires, c.in_ok-x.ensures.moved.to, c.in_ok-then.ensures, found_at (omega arith) c.in_ok-then.ensures, c.in_ok-y.ensures.moved.to, c.in_ok-other.ensures, found_at (omega arith) c.in_ok-other.ensures))) (λ d on₃.
      read (on_more (on_more (on_more on₁ on₂) on₃) c.put.ensures))))));
}

pub expr-returns-in_err-x : goal.expr-returns-in_err-x
expr-returns-in_err-x t c = rw (same_err c.from_residual.ensures.1) (record {
  moved = record { to = c.in_err-x.ensures.moved.to };
  agrees = λ M f h. rw (suc_of f (omega (arith, c.requires))) (rw (expr_bin M (f - 1) _ _ (λ q. c.if-kind-eq-IF.false (c.kind.ensures.is ∙ q)))
      (bind_err _ _ (c.in_err-x.ensures.agrees M (f - 1) (omega (arith, c.requires)))));
})

pub expr-returns : goal.expr-returns
expr-returns t c = record {
  moved = moved_more c.in_ok-x.ensures.moved.to c.choices.ensures.moved;
  agrees = λ M f h. rw (suc_of f (omega (arith, c.requires))) (rw (expr_bin M (f - 1) _ _ (λ q. c.if-kind-eq-IF.false (c.kind.ensures.is ∙ q)))
      (bind_ok _ _ (c.in_ok-x.ensures.agrees M (f - 1) (omega (arith, c.requires))) (λ a on₁.
      c.choices.ensures.agrees M (f - 1) (omega (arith, c.requires, c.in_ok-x.ensures.moved.to)) a on₁)));
}

pub inside-returns-in_err-x : goal.inside-returns-in_err-x
inside-returns-in_err-x t c = rw (same_err c.from_residual.ensures.1) (record {
  moved = record { to = c.in_err-x.ensures.moved.to };
  agrees = λ M f h. rw (suc_of f (omega (arith, c.requires))) (rw (operand_inside M (f - 1) _ c.requires.kind)
      (until_err M s_close _ _ (c.in_err-x.ensures.agrees M (f - 1) (omega (arith, c.requires)))));
})

pub inside-returns-in_err-y : goal.inside-returns-in_err-y
inside-returns-in_err-y t c = rw (same_err c.from_residual-in_err-y.ensures.1) (record {
  moved = omega (arith, c.requires, c.in_ok-x.ensures.moved.to, c.in_err-y.ensures);
  agrees = λ M f h. rw (suc_of f (omega (arith, c.requires))) (rw (operand_inside M (f - 1) _ c.requires.kind)
      (until_missed M s_close _ _ (c.in_ok-x.ensures.agrees M (f - 1) (omega (arith, c.requires))) c.in_err-y.ensures));
})

pub inside-part-requires : goal.inside-part-requires
inside-part-requires t c = omega (arith, c.requires, c.in_ok-x.ensures.moved.to, c.in_ok-y.ensures, found_at (omega arith) c.in_ok-y.ensures, c.put.ensures)

pub inside-returns : goal.inside-returns
unfolding flat
inside-returns t c = record {
  moved = moved_more (omega (arith, c.requires, c.in_ok-x.ensures.moved.to, c.in_ok-y.ensures, found_at (omega arith) c.in_ok-y.ensures, c.put.ensures)) c.part.ensures.moved;
  agrees = λ M f h. rw (suc_of f (omega (arith, c.requires))) (rw (operand_inside M (f - 1) _ c.requires.kind)
      (until_ok M s_close _ _ (c.in_ok-x.ensures.agrees M (f - 1) (omega (arith, c.requires))) c.in_ok-y.ensures (λ a p on₁.
      c.part.ensures.agrees M (f - 1) (omega (arith, c.requires, c.in_ok-x.ensures.moved.to, c.in_ok-y.ensures, found_at (omega arith) c.in_ok-y.ensures)) (inside _ a) (on_more on₁ c.put.ensures))));
}

pub joined-returns-in_err-x : goal.joined-returns-in_err-x
joined-returns-in_err-x t c = rw (same_err c.from_residual.ensures.1) (record {
  moved = record { to = c.in_err-x.ensures.moved.to };
  agrees = λ M f h. rw (suc_of f (omega (arith, c.requires))) (rw (operand_joined M (f - 1) _ c.requires.kind)
      (bind_err _ _ (c.in_err-x.ensures.agrees M (f - 1) (omega (arith, c.requires)))));
})

pub joined-returns-in_err-y : goal.joined-returns-in_err-y
joined-returns-in_err-y t c = rw (same_err c.from_residual-in_err-y.ensures.1) (record {
  moved = record { to = c.in_err-y.ensures.moved.to };
  agrees = λ M f h. rw (suc_of f (omega (arith, c.requires))) (rw (operand_joined M (f - 1) _ c.requires.kind)
      (bind_ok _ _ (c.in_ok-x.ensures.agrees M (f - 1) (omega (arith, c.requires))) (λ a on₁.
      until_err M s_unbrace _ _ (c.in_err-y.ensures.agrees M (f - 1) (omega (arith, c.requires, c.in_ok-x.ensures.moved.to)) a on₁))));
})

pub joined-returns-in_err-z : goal.joined-returns-in_err-z
joined-returns-in_err-z t c = rw (same_err c.from_residual-in_err-z.ensures.1) (record {
  moved = omega (arith, c.requires, c.in_ok-x.ensures.moved.to, c.in_ok-y.ensures.moved.to, c.in_err-z.ensures);
  agrees = λ M f h. rw (suc_of f (omega (arith, c.requires))) (rw (operand_joined M (f - 1) _ c.requires.kind)
      (bind_ok _ _ (c.in_ok-x.ensures.agrees M (f - 1) (omega (arith, c.requires))) (λ a on₁.
      until_missed M s_unbrace _ _ (c.in_ok-y.ensures.agrees M (f - 1) (omega (arith, c.requires, c.in_ok-x.ensures.moved.to)) a on₁) c.in_err-z.ensures)));
})

pub joined-returns : goal.joined-returns
unfolding flat
joined-returns t c = record {
  moved = omega (arith, c.requires, c.in_ok-x.ensures.moved.to, c.in_ok-y.ensures.moved.to, c.in_ok-z.ensures, found_at (omega arith) c.in_ok-z.ensures, c.put.ensures);
  agrees = λ M f h. rw (suc_of f (omega (arith, c.requires))) (rw (operand_joined M (f - 1) _ c.requires.kind)
      (bind_ok _ _ (c.in_ok-x.ensures.agrees M (f - 1) (omega (arith, c.requires))) (λ a on₁.
      until_ok M s_unbrace _ _ (c.in_ok-y.ensures.agrees M (f - 1) (omega (arith, c.requires, c.in_ok-x.ensures.moved.to)) a on₁) c.in_ok-z.ensures (λ b p on₂.
      read (on_more on₂ c.put.ensures)))));
}

pub labelled-expr-requires : goal.labelled-expr-requires
labelled-expr-requires t c = omega (arith, c.requires, c.in_ok-x.ensures, found_at (omega arith) c.in_ok-x.ensures)

pub labelled-returns-in_err-x : goal.labelled-returns-in_err-x
labelled-returns-in_err-x t c = rw (same_err c.from_residual.ensures.1) (record {
  moved = omega (arith, c.requires, c.in_err-x.ensures);
  agrees = λ M f h. rw (suc_of f (omega (arith, c.requires))) (rw (arms_label M (f - 1) _ c.requires.kind)
      (expect_missed M s_arrow _ c.in_err-x.ensures));
})

pub labelled-returns-in_err-y : goal.labelled-returns-in_err-y
labelled-returns-in_err-y t c = rw (same_err c.from_residual-in_err-y.ensures.1) (record {
  moved = record { to = c.in_err-y.ensures.moved.to };
  agrees = λ M f h. rw (suc_of f (omega (arith, c.requires))) (rw (arms_label M (f - 1) _ c.requires.kind)
      (rw (expect_found M s_arrow _ c.in_ok-x.ensures)
      (until_err M s_bar _ _ (c.in_err-y.ensures.agrees M (f - 1) (omega (arith, c.requires, c.in_ok-x.ensures, found_at (omega arith) c.in_ok-x.ensures))))));
})

pub labelled-returns-in_err-z : goal.labelled-returns-in_err-z
labelled-returns-in_err-z t c = rw (same_err c.from_residual-in_err-z.ensures.1) (record {
  moved = omega (arith, c.requires, c.in_ok-x.ensures, found_at (omega arith) c.in_ok-x.ensures, c.in_ok-y.ensures.moved.to, c.in_err-z.ensures);
  agrees = λ M f h. rw (suc_of f (omega (arith, c.requires))) (rw (arms_label M (f - 1) _ c.requires.kind)
      (rw (expect_found M s_arrow _ c.in_ok-x.ensures)
      (until_missed M s_bar _ _ (c.in_ok-y.ensures.agrees M (f - 1) (omega (arith, c.requires, c.in_ok-x.ensures, found_at (omega arith) c.in_ok-x.ensures))) c.in_err-z.ensures)));
})

pub labelled-returns-in_err-end : goal.labelled-returns-in_err-end
labelled-returns-in_err-end t c = rw (same_err c.from_residual-in_err-end.ensures.1) (record {
  moved = record { to = c.in_err-end.ensures.moved.to };
  agrees = λ M f h. rw (suc_of f (omega (arith, c.requires))) (rw (arms_label M (f - 1) _ c.requires.kind)
      (rw (expect_found M s_arrow _ c.in_ok-x.ensures)
      (until_ok M s_bar _ _ (c.in_ok-y.ensures.agrees M (f - 1) (omega (arith, c.requires, c.in_ok-x.ensures, found_at (omega arith) c.in_ok-x.ensures))) c.in_ok-z.ensures (λ a p on₁.
      bind_err _ _ (c.in_err-end.ensures.agrees M (f - 1) (omega (arith, c.requires, c.in_ok-x.ensures, found_at (omega arith) c.in_ok-x.ensures, c.in_ok-y.ensures.moved.to, c.in_ok-z.ensures, found_at (omega arith) c.in_ok-z.ensures)))))));
})

pub labelled-arms-requires : goal.labelled-arms-requires
labelled-arms-requires t c = omega (arith, c.requires, c.in_ok-x.ensures, found_at (omega arith) c.in_ok-x.ensures, c.in_ok-y.ensures.moved.to, c.in_ok-z.ensures, found_at (omega arith) c.in_ok-z.ensures)

pub labelled-returns : goal.labelled-returns
unfolding flat
labelled-returns t c = record {
  moved = omega (arith, c.requires, c.in_ok-x.ensures, found_at (omega arith) c.in_ok-x.ensures, c.in_ok-y.ensures.moved.to, c.in_ok-z.ensures, found_at (omega arith) c.in_ok-z.ensures, c.in_ok-end.ensures.moved.to, c.put.ensures);
  agrees = λ M f h. rw (suc_of f (omega (arith, c.requires))) (rw (arms_label M (f - 1) _ c.requires.kind)
      (rw (expect_found M s_arrow _ c.in_ok-x.ensures)
      (until_ok M s_bar _ _ (c.in_ok-y.ensures.agrees M (f - 1) (omega (arith, c.requires, c.in_ok-x.ensures, found_at (omega arith) c.in_ok-x.ensures))) c.in_ok-z.ensures (λ a p on₁.
      bind_ok _ _ (c.in_ok-end.ensures.agrees M (f - 1) (omega (arith, c.requires, c.in_ok-x.ensures, found_at (omega arith) c.in_ok-x.ensures, c.in_ok-y.ensures.moved.to, c.in_ok-z.ensures, found_at (omega arith) c.in_ok-z.ensures))) (λ b on₂.
      read (on_more (on_more on₁ on₂) (rw c.value.ensures at c.put.ensures)))))));
}

pub named-returns-then-not-memory : goal.named-returns-then-not-memory
unfolding flat
named-returns-then-not-memory t c = record {
  moved = moved_more (omega (arith, c.requires, c.put.ensures)) c.part.ensures.moved;
  agrees = λ M f h. rw (suc_of2 f (omega (arith, c.requires)))
      (rw (operand_read M (f - 2) _ c.requires.kind (sym c.memory.ensures ∙ c.if-not-memory.true)) (c.part.ensures.agrees M (f - 2) (omega (arith, c.requires)) _ c.put.ensures));
}

pub named-expr-requires : goal.named-expr-requires
named-expr-requires t c = omega (arith, c.requires, c.in_ok-x.ensures, found_at (omega arith) c.in_ok-x.ensures)

pub named-returns-in_err-x : goal.named-returns-in_err-x
named-returns-in_err-x t c = rw (same_err c.from_residual.ensures.1) (record {
  moved = omega (arith, c.requires, c.in_err-x.ensures);
  agrees = λ M f h. rw (suc_of2 f (omega (arith, c.requires))) (rw (operand_cell M (f - 2) _ c.requires.kind (sym c.memory.ensures ∙ c.if-not-memory.false))
      (expect_missed M s_bracket _ c.in_err-x.ensures));
})

pub named-returns-in_err-y : goal.named-returns-in_err-y
named-returns-in_err-y t c = rw (same_err c.from_residual-in_err-y.ensures.1) (record {
  moved = record { to = c.in_err-y.ensures.moved.to };
  agrees = λ M f h. rw (suc_of2 f (omega (arith, c.requires))) (rw (operand_cell M (f - 2) _ c.requires.kind (sym c.memory.ensures ∙ c.if-not-memory.false))
      (rw (expect_found M s_bracket _ c.in_ok-x.ensures)
      (until_err M s_unbracket _ _ (c.in_err-y.ensures.agrees M (f - 2) (omega (arith, c.requires, c.in_ok-x.ensures, found_at (omega arith) c.in_ok-x.ensures))))));
})

pub named-returns-in_err-z : goal.named-returns-in_err-z
named-returns-in_err-z t c = rw (same_err c.from_residual-in_err-z.ensures.1) (record {
  moved = omega (arith, c.requires, c.in_ok-x.ensures, found_at (omega arith) c.in_ok-x.ensures, c.in_ok-y.ensures.moved.to, c.in_err-z.ensures);
  agrees = λ M f h. rw (suc_of2 f (omega (arith, c.requires))) (rw (operand_cell M (f - 2) _ c.requires.kind (sym c.memory.ensures ∙ c.if-not-memory.false))
      (rw (expect_found M s_bracket _ c.in_ok-x.ensures)
      (until_missed M s_unbracket _ _ (c.in_ok-y.ensures.agrees M (f - 2) (omega (arith, c.requires, c.in_ok-x.ensures, found_at (omega arith) c.in_ok-x.ensures))) c.in_err-z.ensures)));
})

pub named-returns : goal.named-returns
unfolding flat
named-returns t c = record {
  moved = omega (arith, c.requires, c.in_ok-x.ensures, found_at (omega arith) c.in_ok-x.ensures, c.in_ok-y.ensures.moved.to, c.in_ok-z.ensures, found_at (omega arith) c.in_ok-z.ensures, c.put-2.ensures);
  agrees = λ M f h. rw (suc_of2 f (omega (arith, c.requires))) (rw (operand_cell M (f - 2) _ c.requires.kind (sym c.memory.ensures ∙ c.if-not-memory.false))
      (rw (expect_found M s_bracket _ c.in_ok-x.ensures)
      (until_ok M s_unbracket _ _ (c.in_ok-y.ensures.agrees M (f - 2) (omega (arith, c.requires, c.in_ok-x.ensures, found_at (omega arith) c.in_ok-x.ensures))) c.in_ok-z.ensures (λ a p on₁.
      read (on_more on₁ c.put-2.ensures)))));
}

pub number-returns-in_err-x : goal.number-returns-in_err-x
number-returns-in_err-x t c = rw (same_err c.from_residual.ensures.1) (record {
  moved = record { to = c.in_err-x.ensures.moved.to };
  agrees = λ M f h. rw (suc_of2 f (omega (arith, c.requires))) (rw (operand_copies M (f - 2) _ c.requires.kind (sym c.kind.ensures.is ∙ c.if-kind-ne-BRACE.false))
      (until_err M s_unbrace _ _ (c.in_err-x.ensures.agrees M (f - 2) (omega (arith, c.requires)))));
})

pub number-returns-in_err-y : goal.number-returns-in_err-y
number-returns-in_err-y t c = rw (same_err c.from_residual-in_err-y.ensures.1) (record {
  moved = omega (arith, c.requires, c.in_ok-x.ensures.moved.to, c.in_err-y.ensures);
  agrees = λ M f h. rw (suc_of2 f (omega (arith, c.requires))) (rw (operand_copies M (f - 2) _ c.requires.kind (sym c.kind.ensures.is ∙ c.if-kind-ne-BRACE.false))
      (until_missed M s_unbrace _ _ (c.in_ok-x.ensures.agrees M (f - 2) (omega (arith, c.requires))) c.in_err-y.ensures));
})

pub number-returns : goal.number-returns
unfolding flat
number-returns t c = record {
  moved = omega (arith, c.requires, c.in_ok-x.ensures.moved.to, c.in_ok-y.ensures, found_at (omega arith) c.in_ok-y.ensures, c.put.ensures);
  agrees = λ M f h. rw (suc_of2 f (omega (arith, c.requires))) (rw (operand_copies M (f - 2) _ c.requires.kind (sym c.kind.ensures.is ∙ c.if-kind-ne-BRACE.false))
      (until_ok M s_unbrace _ _ (c.in_ok-x.ensures.agrees M (f - 2) (omega (arith, c.requires))) c.in_ok-y.ensures (λ a p on₁.
      read (on_more on₁ (rw c.value.ensures at c.put.ensures)))));
}

pub operand-unary-requires : goal.operand-unary-requires
operand-unary-requires t c = (
  omega (arith, c.requires),
  record {
    few = omega (arith, c.requires);
    within = mark_inside _ _ _ c.kind-k.ensures (sym c.prefix.ensures ∙ c.if-prefix.true);
    room = omega (arith, c.requires);
    kind = sym c.kind-k.ensures.is;
    mark = sym c.prefix.ensures ∙ c.if-prefix.true;
  },
)

pub operand-returns-in_default-2 : goal.operand-returns-in_default-2
operand-returns-in_default-2 t c = record {
  moved = omega (arith, c.requires);
  agrees = λ M f h. rw (suc_of f (omega (arith, c.requires))) (rw (operand_none M (f - 1) _ (λ q. omega (arith, c.kind-k.ensures.is ∙ q)) (λ q. omega (arith, c.kind-k.ensures.is ∙ q))
      (λ q. omega (arith, c.kind-k.ensures.is ∙ q)) (λ q. omega (arith, c.kind-k.ensures.is ∙ q)) (λ q. omega (arith, c.kind-k.ensures.is ∙ q))
      (λ q. omega (arith, c.kind-k.ensures.is ∙ q)) (ap is_mark (sym c.kind-k.ensures.is) ∙ sym c.prefix.ensures ∙ c.if-prefix.false)) fault);
}

pub operators-returns-then-arm_ends : goal.operators-returns-then-arm_ends
operators-returns-then-arm_ends t c = record {
  moved = record { to = c.loop-at.invariant.went };
  agrees = λ M f h e on. c.loop-at.invariant.goes M _ _ _ _ (λ a on f h. rw (suc_of f (omega (arith, c.loop-at.invariant.went))) (elim c.then-arm_ends.branch [
    | operators-then-arm_ends-via-then-arm_ends w ↦ rw (bin_ends M (f - 1) _ _ a _ (sym (c.arm_ends.ensures.is M) ∙ w.if-arm_ends.true)) (read on)
    | operators-then-arm_ends-via-else-arm_ends+then-l-below w ↦
        rw (bin_stop M (f - 1) _ _ a _ (sym (c.arm_ends.ensures.is M) ∙ w.if-arm_ends.false) (level_as _ _ _ _ c.level-l.ensures.is c.kind-k.ensures.is w.if-l-below.true)) (read on)
  ])) e on f h;
}

pub operators-returns-in_err-x : goal.operators-returns-in_err-x
operators-returns-in_err-x t c = let i = operator_inside _ _ _ _ _ c.kind-k.ensures c.level-l.ensures c.if-l-below.false c.requires.below_le_loosest in
    rw (same_err c.from_residual.ensures.1) (record {
      moved = record { to = c.in_err-x.ensures.moved.to };
      agrees = λ M f h e on. c.loop-at.invariant.goes M _ _ _ _ (λ a on f h. rw (suc_of f (omega (arith, c.loop-at.invariant.went)))
          (let z = operator_of _ _ _ (level_below _ _ _ c.level-l.ensures.is c.if-l-below.false) c.requires.below_le_loosest in
          rw (bin_more M (f - 1) _ _ a _ _ _ c.kind-k.ensures.is i (sym (c.arm_ends.ensures.is M) ∙ c.if-arm_ends.false) z c.level-l.ensures.is)
          (bind_err _ _ (c.in_err-x.ensures.agrees M (f - 1) (omega (arith, c.loop-at.invariant.went)))))) e on f h;
    })

pub operators-loop-at-preserved : goal.operators-loop-at-preserved
unfolding flat
operators-loop-at-preserved t c = let i = operator_inside _ _ _ _ _ c.kind-k.ensures c.level-l.ensures c.if-l-below.false c.requires.below_le_loosest in let w = c.in_ok-x.ensures.moved.to in record {
  went = omega (arith, c.loop-at.invariant.went);
  goes = λ M s b r t' k. c.loop-at.invariant.goes M s b r t' (λ a on f h. rw (suc_of f (omega (arith, c.loop-at.invariant.went)))
      (let z = operator_of _ _ _ (level_below _ _ _ c.level-l.ensures.is c.if-l-below.false) c.requires.below_le_loosest in
      rw (bin_more M (f - 1) _ _ a _ _ _ c.kind-k.ensures.is i (sym (c.arm_ends.ensures.is M) ∙ c.if-arm_ends.false) z c.level-l.ensures.is)
      (bind_ok _ _ (c.in_ok-x.ensures.agrees M (f - 1) (omega (arith, c.loop-at.invariant.went))) (λ e on₁. k (binary z.operator.which a e)
      (on_more (on_more on on₁) (on_value (sym z.number) c.binary_item.ensures)) (f - 1) (omega arith)))));
}

pub parts-returns-in_err-x : goal.parts-returns-in_err-x
parts-returns-in_err-x t c = rw (same_err c.from_residual.ensures.1) (record {
  moved = record { to = c.in_err-x.ensures.moved.to };
  agrees = λ M f h e on. c.loop-items.invariant.goes M _ _ _ _ (λ a on f h. rw (suc_of f (omega (arith, c.loop-items.invariant.went))) (rw (parts_more M (f - 1) _ a (sym c.kind.ensures.is ∙ c.loop-items-test.true))
      (bind_err _ _ (c.in_err-x.ensures.agrees M (f - 1) (omega (arith, c.loop-items.invariant.went)))))) e on f h;
})

pub parts-loop-items-preserved : goal.parts-loop-items-preserved
unfolding flat
parts-loop-items-preserved t c = let w = c.in_ok-x.ensures.moved.to in record {
  went = omega (arith, c.loop-items.invariant.went);
  goes = λ M s b r t' k. c.loop-items.invariant.goes M s b r t' (λ a on f h. rw (suc_of f (omega (arith, c.loop-items.invariant.went))) (rw (parts_more M (f - 1) _ a (sym c.kind.ensures.is ∙ c.loop-items-test.true))
      (bind_ok _ _ (c.in_ok-x.ensures.agrees M (f - 1) (omega (arith, c.loop-items.invariant.went))) (λ e on₁. k (beside a e) (on_more (on_more on on₁) c.emit.ensures) (f - 1) (omega arith)))));
}

pub parts-returns : goal.parts-returns
parts-returns t c = record {
  moved = record { to = c.loop-items.invariant.went };
  agrees = λ M f h e on. c.loop-items.invariant.goes M _ _ _ _ (λ a on f h. rw (suc_of f (omega (arith, c.loop-items.invariant.went))) (rw (parts_stop M (f - 1) _ a (λ q. c.loop-items-test.false (c.kind.ensures.is ∙ q))) (read on))) e on f h;
}

pub select-expr-requires : goal.select-expr-requires
select-expr-requires t c = omega (arith, c.requires, c.in_ok-x.ensures, found_at (omega arith) c.in_ok-x.ensures)

pub select-returns-in_err-x : goal.select-returns-in_err-x
select-returns-in_err-x t c = rw (same_err c.from_residual.ensures.1) (record {
  moved = omega (arith, c.requires, c.in_err-x.ensures);
  agrees = λ M f h. rw (suc_of f (omega (arith, c.requires))) (rw (operand_case M (f - 1) _ c.requires.kind)
      (expect_missed M s_open _ c.in_err-x.ensures));
})

pub select-returns-in_err-y : goal.select-returns-in_err-y
select-returns-in_err-y t c = rw (same_err c.from_residual-in_err-y.ensures.1) (record {
  moved = record { to = c.in_err-y.ensures.moved.to };
  agrees = λ M f h. rw (suc_of f (omega (arith, c.requires))) (rw (operand_case M (f - 1) _ c.requires.kind)
      (rw (expect_found M s_open _ c.in_ok-x.ensures)
      (until_err M s_close _ _ (c.in_err-y.ensures.agrees M (f - 1) (omega (arith, c.requires, c.in_ok-x.ensures, found_at (omega arith) c.in_ok-x.ensures))))));
})

pub select-returns-in_err-z : goal.select-returns-in_err-z
select-returns-in_err-z t c = rw (same_err c.from_residual-in_err-z.ensures.1) (record {
  moved = omega (arith, c.requires, c.in_ok-x.ensures, found_at (omega arith) c.in_ok-x.ensures, c.in_ok-y.ensures.moved.to, c.in_err-z.ensures);
  agrees = λ M f h. rw (suc_of f (omega (arith, c.requires))) (rw (operand_case M (f - 1) _ c.requires.kind)
      (rw (expect_found M s_open _ c.in_ok-x.ensures)
      (until_missed M s_close _ _ (c.in_ok-y.ensures.agrees M (f - 1) (omega (arith, c.requires, c.in_ok-x.ensures, found_at (omega arith) c.in_ok-x.ensures))) c.in_err-z.ensures)));
})

pub select-returns-in_err-first : goal.select-returns-in_err-first
select-returns-in_err-first t c = rw (same_err c.from_residual-in_err-first.ensures.1) (record {
  moved = omega (arith, c.requires, c.in_ok-x.ensures, found_at (omega arith) c.in_ok-x.ensures, c.in_ok-y.ensures.moved.to, c.in_ok-z.ensures, found_at (omega arith) c.in_ok-z.ensures, c.in_err-first.ensures);
  agrees = λ M f h. rw (suc_of f (omega (arith, c.requires))) (rw (operand_case M (f - 1) _ c.requires.kind)
      (rw (expect_found M s_open _ c.in_ok-x.ensures)
      (until_ok M s_close _ _ (c.in_ok-y.ensures.agrees M (f - 1) (omega (arith, c.requires, c.in_ok-x.ensures, found_at (omega arith) c.in_ok-x.ensures))) c.in_ok-z.ensures (λ a p on₁.
      expect_missed M s_brace _ c.in_err-first.ensures))));
})

pub select-returns-in_err-end : goal.select-returns-in_err-end
select-returns-in_err-end t c = rw (same_err c.from_residual-in_err-end.ensures.1) (record {
  moved = record { to = c.in_err-end.ensures.moved.to };
  agrees = λ M f h. rw (suc_of f (omega (arith, c.requires))) (rw (operand_case M (f - 1) _ c.requires.kind)
      (rw (expect_found M s_open _ c.in_ok-x.ensures)
      (until_ok M s_close _ _ (c.in_ok-y.ensures.agrees M (f - 1) (omega (arith, c.requires, c.in_ok-x.ensures, found_at (omega arith) c.in_ok-x.ensures))) c.in_ok-z.ensures (λ a p on₁.
      rw (expect_found M s_brace _ c.in_ok-first.ensures)
      (bind_err _ _ (c.in_err-end.ensures.agrees M (f - 1) (omega (arith, c.requires, c.in_ok-x.ensures, found_at (omega arith) c.in_ok-x.ensures, c.in_ok-y.ensures.moved.to, c.in_ok-z.ensures, found_at (omega arith) c.in_ok-z.ensures, c.in_ok-first.ensures, found_at (omega arith) c.in_ok-first.ensures))))))));
})

pub select-expect-requires-3 : goal.select-expect-requires-3
select-expect-requires-3 t c = omega (arith, c.requires, c.in_ok-x.ensures, found_at (omega arith) c.in_ok-x.ensures, c.in_ok-y.ensures.moved.to, c.in_ok-z.ensures, found_at (omega arith) c.in_ok-z.ensures)

pub select-arms-requires : goal.select-arms-requires
select-arms-requires t c = omega (arith, c.requires, c.in_ok-x.ensures, found_at (omega arith) c.in_ok-x.ensures, c.in_ok-y.ensures.moved.to, c.in_ok-z.ensures, found_at (omega arith) c.in_ok-z.ensures, c.in_ok-first.ensures, found_at (omega arith) c.in_ok-first.ensures, c.put.ensures)

pub select-returns : goal.select-returns
unfolding flat
select-returns t c = record {
  moved = omega (arith, c.requires, c.in_ok-x.ensures, found_at (omega arith) c.in_ok-x.ensures, c.in_ok-y.ensures.moved.to, c.in_ok-z.ensures, found_at (omega arith) c.in_ok-z.ensures, c.in_ok-first.ensures, found_at (omega arith) c.in_ok-first.ensures, c.in_ok-end.ensures.moved.to, c.put.ensures, c.put-2.ensures);
  agrees = λ M f h. rw (suc_of f (omega (arith, c.requires))) (rw (operand_case M (f - 1) _ c.requires.kind)
      (rw (expect_found M s_open _ c.in_ok-x.ensures)
      (until_ok M s_close _ _ (c.in_ok-y.ensures.agrees M (f - 1) (omega (arith, c.requires, c.in_ok-x.ensures, found_at (omega arith) c.in_ok-x.ensures))) c.in_ok-z.ensures (λ a p on₁.
      rw (expect_found M s_brace _ c.in_ok-first.ensures)
      (bind_ok _ _ (c.in_ok-end.ensures.agrees M (f - 1) (omega (arith, c.requires, c.in_ok-x.ensures, found_at (omega arith) c.in_ok-x.ensures, c.in_ok-y.ensures.moved.to, c.in_ok-z.ensures, found_at (omega arith) c.in_ok-z.ensures, c.in_ok-first.ensures, found_at (omega arith) c.in_ok-first.ensures))) (λ b on₂.
      read (on_more (on_more (on_more on₁ c.put.ensures) on₂) c.put-2.ensures)))))));
}

pub unary-returns-in_err-x : goal.unary-returns-in_err-x
unary-returns-in_err-x t c = rw (same_err c.from_residual.ensures.1) (record {
  moved = record { to = c.in_err-x.ensures.moved.to };
  agrees = λ M f h. rw (suc_of f (omega (arith, c.requires))) (rw ((operand_unary M (f - 1) _ _ c.requires.within c.requires.kind (mark_of_law _ _ c.requires.mark) c.requires.mark))
      (bind_err _ _ (c.in_err-x.ensures.agrees M (f - 1) (omega (arith, c.requires)))));
})

pub unary-returns : goal.unary-returns
unfolding flat
unary-returns t c = record {
  moved = omega (arith, c.requires, c.in_ok-x.ensures.moved.to, c.unary_item.ensures);
  agrees = λ M f h. rw (suc_of f (omega (arith, c.requires))) (rw ((operand_unary M (f - 1) _ _ c.requires.within c.requires.kind (mark_of_law _ _ c.requires.mark) c.requires.mark))
      (bind_ok _ _ (c.in_ok-x.ensures.agrees M (f - 1) (omega (arith, c.requires))) (λ a on₁.
      read (on_more on₁ (on_value (sym (mark_of_law _ _ c.requires.mark).number) c.unary_item.ensures)))));
}
