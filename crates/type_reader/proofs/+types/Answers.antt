-- The cycle of the types meets its contracts. Assumes nothing.
use native.Mathlib.Omega.{arith}
use mathlib.Core.Path.{◌≡◌, sym, ◌∙◌}
use Prim.Native.Nat.{ℕ, ◌≤◌, ◌-◌}
use Rattle.language.specs.Tree.{entry}
use Rattle.tape.specs.Tape.{flat_t}
use Rattle.readers.specs.Meets.{read, fault}
use Rattle.readers.proofs.Laws.{suc_of, on_more, on_as, moved_more, bind_ok, bind_err, same_err}
use Rattle.readers.proofs.Spells.{expect_found, expect_missed, until_ok, until_missed, until_err, found_at}
use Rattle.readers.proofs.Fixed.{s_open, s_close}
use Rattle.type_reader.proofs.Grammar.{type_law, sum_stop, sum_law, entry_more, entry_stop, term_max, term_within, term_none, function_law}
use Rattle.type_reader.proofs.+types.Goals as goal

pos : {k : ℕ} → (k ≡ 0 → ⊥) → 1 ≤ k
pos h = omega arith

pub within-returns-in_err-x : goal.within-returns-in_err-x
within-returns-in_err-x t c = rw (same_err c.from_residual.ensures.1) (record {
  moved = record { to = c.in_err-x.ensures.moved.to };
  agrees = λ M f h. rw (suc_of f (omega (arith, c.requires))) (rw (term_within M (f - 1) _ c.requires.kind) (until_err M s_close _ _ (c.in_err-x.ensures.agrees M (f - 1) (omega arith))));
})

pub within-returns-in_err-y : goal.within-returns-in_err-y
within-returns-in_err-y t c = rw (same_err c.from_residual-in_err-y.ensures.1) (record {
  moved = omega (arith, c.in_ok-x.ensures.moved.to, c.in_err-y.ensures);
  agrees = λ M f h. rw (suc_of f (omega (arith, c.requires))) (rw (term_within M (f - 1) _ c.requires.kind) (until_missed M s_close _ _ (c.in_ok-x.ensures.agrees M (f - 1) (omega arith)) c.in_err-y.ensures));
})

pub within-returns : goal.within-returns
unfolding flat_t
within-returns t c = record {
  moved = omega (arith, c.in_ok-x.ensures.moved.to, c.in_ok-y.ensures, found_at (omega arith) c.in_ok-y.ensures);
  agrees = λ M f h. rw (suc_of f (omega (arith, c.requires))) (rw (term_within M (f - 1) _ c.requires.kind) (until_ok M s_close _ _ (c.in_ok-x.ensures.agrees M (f - 1) (omega arith)) c.in_ok-y.ensures
      (λ a p on. read (on_more on c.put.ensures))));
}

pub entries-returns-in_err-x : goal.entries-returns-in_err-x
entries-returns-in_err-x t c = rw (same_err c.from_residual.ensures.1) (record {
  moved = record { to = c.in_err-x.ensures.moved.to };
  agrees = λ M f h e on. c.loop-items.invariant.goes M _ _ _ _ (λ a on f h. rw (suc_of f (omega (arith, c.loop-items.invariant.went))) (rw (entry_more M (f - 1) _ a (sym c.kind.ensures.is ∙ c.loop-items-test.true))
      (bind_err _ _ (c.in_err-x.ensures.agrees M (f - 1) (omega (arith, c.loop-items.invariant.went)))))) e on f h;
})

pub entries-loop-items-preserved : goal.entries-loop-items-preserved
unfolding flat_t
entries-loop-items-preserved t c = let w = c.in_ok-x.ensures.moved.to in record {
  went = omega (arith, c.loop-items.invariant.went);
  goes = λ M s b r t' k. c.loop-items.invariant.goes M s b r t' (λ a on f h. rw (suc_of f (omega (arith, c.loop-items.invariant.went))) (rw (entry_more M (f - 1) _ a (sym c.kind.ensures.is ∙ c.loop-items-test.true))
      (bind_ok _ _ (c.in_ok-x.ensures.agrees M (f - 1) (omega (arith, c.loop-items.invariant.went))) (λ e on₁. k (entry a e) (on_more (on_more on on₁) c.emit.ensures) (f - 1) (omega arith)))));
}

pub entries-returns : goal.entries-returns
entries-returns t c = record {
  moved = record { to = c.loop-items.invariant.went };
  agrees = λ M f h e on. c.loop-items.invariant.goes M _ _ _ _ (λ a on f h. rw (suc_of f (omega (arith, c.loop-items.invariant.went))) (rw (entry_stop M (f - 1) _ a (λ q. c.loop-items-test.false (c.kind.ensures.is ∙ q))) (read on))) e on f h;
}

pub function-returns-in_err-x : goal.function-returns-in_err-x
function-returns-in_err-x t c = rw (same_err c.from_residual.ensures.1) (record {
  moved = omega (arith, c.requires, c.in_err-x.ensures);
  agrees = λ M f h. rw (suc_of f (omega (arith, c.requires))) (let F = function_law M (f - 1) _ _ c.requires.le_op c.requires.op_bound c.requires.starts.kind in rw F.reads (expect_missed M s_open _ c.in_err-x.ensures));
})

pub function-typ-requires : goal.function-typ-requires
function-typ-requires t c = omega (arith, c.requires, c.in_ok-x.ensures, found_at (omega arith) c.in_ok-x.ensures)

pub function-returns-in_err-y : goal.function-returns-in_err-y
function-returns-in_err-y t c = rw (same_err c.from_residual-in_err-y.ensures.1) (record {
  moved = record { to = c.in_err-y.ensures.moved.to };
  agrees = λ M f h. rw (suc_of f (omega (arith, c.requires))) (let F = function_law M (f - 1) _ _ c.requires.le_op c.requires.op_bound c.requires.starts.kind in rw F.reads (rw (expect_found M s_open _ c.in_ok-x.ensures)
      (until_err M s_close _ _ (c.in_err-y.ensures.agrees M (f - 1) (omega (arith, c.in_ok-x.ensures))))));
})

pub function-returns-in_err-z : goal.function-returns-in_err-z
function-returns-in_err-z t c = rw (same_err c.from_residual-in_err-z.ensures.1) (record {
  moved = omega (arith, c.in_ok-y.ensures.moved.to, c.in_err-z.ensures);
  agrees = λ M f h. rw (suc_of f (omega (arith, c.requires))) (let F = function_law M (f - 1) _ _ c.requires.le_op c.requires.op_bound c.requires.starts.kind in rw F.reads (rw (expect_found M s_open _ c.in_ok-x.ensures)
      (until_missed M s_close _ _ (c.in_ok-y.ensures.agrees M (f - 1) (omega (arith, c.in_ok-x.ensures))) c.in_err-z.ensures)));
})

pub function-returns : goal.function-returns
function-returns t c = record {
  moved = omega (arith, c.requires, c.in_ok-x.ensures, c.in_ok-y.ensures.moved.to, c.in_ok-z.ensures, found_at (omega arith) c.in_ok-z.ensures);
  agrees = λ M f h. rw (suc_of f (omega (arith, c.requires))) (let F = function_law M (f - 1) _ _ c.requires.le_op c.requires.op_bound c.requires.starts.kind in rw F.reads (rw (expect_found M s_open _ c.in_ok-x.ensures)
      (until_ok M s_close _ _ (c.in_ok-y.ensures.agrees M (f - 1) (omega (arith, c.in_ok-x.ensures))) c.in_ok-z.ensures (λ a p on. read (on_as (sym (F.items a)) (on_more on c.put.ensures))))));
}

pub most-returns-in_err-x : goal.most-returns-in_err-x
most-returns-in_err-x t c = rw (same_err c.from_residual.ensures.1) (record {
  moved = omega (arith, c.requires, c.in_err-x.ensures);
  agrees = λ M f h. rw (suc_of f (omega (arith, c.requires))) (rw (term_max M (f - 1) _ c.requires.kind) (expect_missed M s_open _ c.in_err-x.ensures));
})

pub most-typ-requires : goal.most-typ-requires
most-typ-requires t c = omega (arith, c.requires, c.in_ok-x.ensures, found_at (omega arith) c.in_ok-x.ensures)

pub most-returns-in_err-y : goal.most-returns-in_err-y
most-returns-in_err-y t c = rw (same_err c.from_residual-in_err-y.ensures.1) (record {
  moved = record { to = c.in_err-y.ensures.moved.to };
  agrees = λ M f h. rw (suc_of f (omega (arith, c.requires))) (rw (term_max M (f - 1) _ c.requires.kind) (rw (expect_found M s_open _ c.in_ok-x.ensures)
      (bind_err _ _ (c.in_err-y.ensures.agrees M (f - 1) (omega (arith, c.in_ok-x.ensures))))));
})

pub most-returns-in_err-z : goal.most-returns-in_err-z
most-returns-in_err-z t c = rw (same_err c.from_residual-in_err-z.ensures.1) (record {
  moved = record { to = c.in_err-z.ensures.moved.to };
  agrees = λ M f h. rw (suc_of f (omega (arith, c.requires))) (rw (term_max M (f - 1) _ c.requires.kind) (rw (expect_found M s_open _ c.in_ok-x.ensures)
      (bind_ok _ _ (c.in_ok-y.ensures.agrees M (f - 1) (omega (arith, c.in_ok-x.ensures))) (λ a on₁.
      until_err M s_close _ _ (c.in_err-z.ensures.agrees M (f - 1) (omega (arith, c.in_ok-x.ensures, c.in_ok-y.ensures.moved.to)) a on₁)))));
})

pub most-returns-in_err-end : goal.most-returns-in_err-end
most-returns-in_err-end t c = rw (same_err c.from_residual-in_err-end.ensures.1) (record {
  moved = omega (arith, c.in_ok-z.ensures.moved.to, c.in_err-end.ensures);
  agrees = λ M f h. rw (suc_of f (omega (arith, c.requires))) (rw (term_max M (f - 1) _ c.requires.kind) (rw (expect_found M s_open _ c.in_ok-x.ensures)
      (bind_ok _ _ (c.in_ok-y.ensures.agrees M (f - 1) (omega (arith, c.in_ok-x.ensures))) (λ a on₁.
      until_missed M s_close _ _ (c.in_ok-z.ensures.agrees M (f - 1) (omega (arith, c.in_ok-x.ensures, c.in_ok-y.ensures.moved.to)) a on₁) c.in_err-end.ensures))));
})

pub most-returns : goal.most-returns
unfolding flat_t
most-returns t c = record {
  moved = omega (arith, c.requires, c.in_ok-x.ensures, c.in_ok-y.ensures.moved.to, c.in_ok-z.ensures.moved.to, c.in_ok-end.ensures, found_at (omega arith) c.in_ok-end.ensures);
  agrees = λ M f h. rw (suc_of f (omega (arith, c.requires))) (rw (term_max M (f - 1) _ c.requires.kind) (rw (expect_found M s_open _ c.in_ok-x.ensures)
      (bind_ok _ _ (c.in_ok-y.ensures.agrees M (f - 1) (omega (arith, c.in_ok-x.ensures))) (λ a on₁.
      until_ok M s_close _ _ (c.in_ok-z.ensures.agrees M (f - 1) (omega (arith, c.in_ok-x.ensures, c.in_ok-y.ensures.moved.to)) a on₁) c.in_ok-end.ensures (λ e p on. read (on_more on c.put.ensures))))));
}

pub sums-returns-then-op-eq0 : goal.sums-returns-then-op-eq0
sums-returns-then-op-eq0 t c = record {
  moved = record { to = c.loop-at.invariant.went };
  agrees = λ M f h e on. c.loop-at.invariant.goes M _ _ _ _ (λ a on f h. rw (suc_of f (omega (arith, c.loop-at.invariant.went))) (rw (sum_stop M (f - 1) _ a (λ q. (c.sum-op.ensures.none c.if-op-eq0.true).0 (c.kind.ensures.is ∙ q)) (λ q. (c.sum-op.ensures.none c.if-op-eq0.true).1 (c.kind.ensures.is ∙ q))) (read on))) e on f h;
}

pub sums-returns-in_err-x : goal.sums-returns-in_err-x
sums-returns-in_err-x t c = let q = pos c.if-op-eq0.false in rw (same_err c.from_residual.ensures.1) (record {
  moved = record { to = c.in_err-x.ensures.moved.to };
  agrees = λ M f h e on. c.loop-at.invariant.goes M _ _ _ _ (λ a on f h. rw (suc_of f (omega (arith, c.loop-at.invariant.went))) (let z = c.sum-op.ensures.more q in let F = sum_law M (f - 1) _ _ a (sym c.kind.ensures.is ∙ z.0, z.1, z.2) in rw F.reads
      (bind_err _ _ (c.in_err-x.ensures.agrees M (f - 1) (omega (arith, c.loop-at.invariant.went)))))) e on f h;
})

pub sums-loop-at-preserved : goal.sums-loop-at-preserved
unfolding flat_t
sums-loop-at-preserved t c = let w = c.in_ok-x.ensures.moved.to in let q = pos c.if-op-eq0.false in record {
  went = omega (arith, c.loop-at.invariant.went);
  goes = λ M s b r t' k. c.loop-at.invariant.goes M s b r t' (λ a on f h. rw (suc_of f (omega (arith, c.loop-at.invariant.went))) (let z = c.sum-op.ensures.more q in let F = sum_law M (f - 1) _ _ a (sym c.kind.ensures.is ∙ z.0, z.1, z.2) in rw F.reads
      (bind_ok _ _ (c.in_ok-x.ensures.agrees M (f - 1) (omega (arith, c.loop-at.invariant.went))) (λ e on₁. k (F.makes e) (on_as (sym (F.items e)) (on_more (on_more on on₁) c.emit.ensures)) (f - 1) (omega arith)))));
}

pub term-returns-in_default : goal.term-returns-in_default
term-returns-in_default t c = record {
  moved = omega (arith, c.requires);
  agrees = λ M f h. rw (suc_of f (omega (arith, c.requires))) (rw (term_none M (f - 1) c.args.at (λ q. omega (arith, c.kind.ensures.is ∙ q)) (λ q. omega (arith, c.kind.ensures.is ∙ q)) (λ q. omega (arith, c.kind.ensures.is ∙ q))
      (λ q. omega (arith, c.kind.ensures.is ∙ q)) (λ q. omega (arith, c.kind.ensures.is ∙ q)) (λ q. omega (arith, c.kind.ensures.is ∙ q)) (λ q. omega (arith, c.kind.ensures.is ∙ q))) fault);
}

pub typ-returns-in_err-x : goal.typ-returns-in_err-x
typ-returns-in_err-x t c = rw (same_err c.from_residual.ensures.1) (record {
  moved = record { to = c.in_err-x.ensures.moved.to };
  agrees = λ M f h. rw (suc_of f (omega (arith, c.requires))) (rw (type_law M (f - 1) _) (bind_err _ _ (c.in_err-x.ensures.agrees M (f - 1) (omega arith))));
})

pub typ-returns : goal.typ-returns
typ-returns t c = let w = c.in_ok-x.ensures.moved.to in record {
  moved = moved_more w c.sums.ensures.moved;
  agrees = λ M f h. rw (suc_of f (omega (arith, c.requires))) (rw (type_law M (f - 1) _) (bind_ok _ _ (c.in_ok-x.ensures.agrees M (f - 1) (omega arith))
      (λ a on. c.sums.ensures.agrees M (f - 1) (omega arith) a on)));
}
