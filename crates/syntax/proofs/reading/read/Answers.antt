-- `syntax::reading::read` meets its contract. Assumes nothing.
use native.Mathlib.Omega.{arith}
use mathlib.Core.Path.{sym, ap, ◌∙◌}
use Rattle.std.specs.Prelude.{Err}
use Rattle.syntax.proofs.Whole.{found_words, found_some, bad_said, bad_after, short_said, short_after, long_said, long_after}
use borrow.Author.Rules.{rules}
use Rattle.syntax.proofs.reading.read.Goals as goal

pub returns-then-text-gt-BYTES : goal.returns-then-text-gt-BYTES
returns-then-text-gt-BYTES c = rw c.refused.ensures (record { answer = long_said _ c.if-text-gt-BYTES.true; tape = long_after _ _ c.if-text-gt-BYTES.true; room = tt })

pub listed-requires : goal.listed-requires
listed-requires c = found_words _ _ (omega arith) (search rules) c.words.ensures.table (sym c.in-Ok.is ∙ c.words.ensures.answer)

pub returns-in-Ok : goal.returns-in-Ok
returns-in-Ok c = record { answer = c.listed.ensures.answer ∙ short_said _ (omega arith); tape = c.listed.ensures.tape ∙ short_after _ _ (omega arith); room = c.listed.ensures.room }

pub returns-in-Err-Bad : goal.returns-in-Err-Bad
returns-in-Err-Bad c =
    let e = ap Err (sym c.in-Err-Bad.field-0-is) ∙ sym c.in-Err-Bad.is ∙ c.words.ensures.answer in
    rw (c.refused-in-Err-Bad.ensures, c.in-Err-Bad.field-0-is) (record { answer = bad_said _ _ (omega arith) (search rules) e ∙ short_said _ (omega arith); tape = bad_after _ _ (omega arith) (search rules) _ e ∙ short_after _ _ (omega arith); room = tt })

pub returns-in-Err-NoRoom : goal.returns-in-Err-NoRoom
returns-in-Err-NoRoom c = absurd (found_some _ _ (omega arith) (search rules) (ap Err (sym c.in-Err-NoRoom.field-0-is) ∙ sym c.in-Err-NoRoom.is ∙ c.words.ensures.answer))
