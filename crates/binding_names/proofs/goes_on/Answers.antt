-- `binding_names::goes_on` meets its contract. Assumes nothing.
use native.Mathlib.Omega.{arith}
use mathlib.Core.Path.{sym, ◌∙◌}
use Prim.Native.Nat.{◌+◌}
use borrow.Author.Tests.{ne_eqb}
use Rattle.binding_names.proofs.Names.{both_is, goes_long, goes_last, run_length}
use Rattle.binding_names.proofs.goes_on.Goals as goal

pub returns-then-n-eq-NAME : goal.returns-then-n-eq-NAME
returns-then-n-eq-NAME c =
    let args = c.args in
    let l = run_length args.text.now args.from (args.n + 1) (omega arith) in
    c.may_end.ensures ∙ sym (both_is _ _ (sym c.is_name_byte.ensures ∙ c.if-is_name_byte.true) ∙ goes_last _ _ (omega (arith, l)))

pub returns-else-n-eq-NAME : goal.returns-else-n-eq-NAME
returns-else-n-eq-NAME c =
    let args = c.args in
    let l = run_length args.text.now args.from (args.n + 1) (omega arith) in
    ne_eqb _ _ c.if-n-eq-NAME.false ∙ sym (both_is _ _ (sym c.is_name_byte.ensures ∙ c.if-is_name_byte.true) ∙ goes_long _ _ (omega (arith, l)))
