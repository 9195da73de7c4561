-- `row07_limits::fault` meets its contract: the walk over the items is row 7. Assumes nothing.
use native.Mathlib.Omega.{arith}
use mathlib.Core.Path.{◌≡◌, sym, ◌∙◌}
use Prim.Native.Nat.{ℕ}
use Rattle.row07_limits.proofs.Theorem.{row_answer, row_never}
use borrow.Author.Rules.{rules}
use Rattle.row07_limits.proofs.fault.Goals as goal

pub returns-in-Ok : goal.returns-in-Ok
returns-in-Ok c =
    let args = c.args in
    let pre = c.requires in
    let words = c.words in
    let many = c.in-Ok in
    λ ws a short h. row_answer args.text.now args.tape.now _ _ args.n (pre) (search rules) words.ensures.table short h _
    (sym many.is ∙ words.ensures.answer) c.listed.ensures

pub returns-in-Err : goal.returns-in-Err
returns-in-Err c =
    let args = c.args in
    let pre = c.requires in
    let words = c.words in
    λ ws a short h. absurd
    (row_never args.text.now args.tape.now _ _ args.n (pre) (search rules) words.ensures.table short h
    (λ m e. let z : ◌≡◌ {A = ℕ} 0 1 = cc in omega arith) (sym c.in-Err.is ∙ words.ensures.answer))
