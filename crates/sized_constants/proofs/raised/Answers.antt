-- `sized_constants::raised` meets its contract. Assumes nothing.
use Rattle.std.proofs.Common.{arith, sym, ◌∙◌}
use Rattle.sized_constants.proofs.Sized.{plain_of, below_of, raised_big, exact_is, amount_big}
use Rattle.sized_constants.proofs.raised.Goals as goal

pub digit_of-digit-requires : goal.digit_of-digit-requires
digit_of-digit-requires c = plain_of _ _ c.requires.1

pub returns-in_err-v : goal.returns-in_err-v
returns-in_err-v c = λ n e. c.from_residual.ensures ∙ raised_big _ _ (below_of _ _ c.requires.1) n (sym c.in_err-v.was ∙ e)

pub returns-in_err-checked_mul : goal.returns-in_err-checked_mul
returns-in_err-checked_mul c = λ n e.
    let q = exact_is _ n (sym c.in_ok-v.was ∙ e) in
    let over = c.in_err-checked_mul.ensures in
    c.from_residual-in_err-checked_mul.ensures ∙ rw q (sym (amount_big _ (omega arith)))
