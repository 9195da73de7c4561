-- `binding_numbers::number_line` meets its contract. Assumes nothing.
use native.Mathlib.Omega.{arith}
use mathlib.Core.Path.{sym, ◌∙◌}
use Rattle.language.specs.Bindings.{got}
use Rattle.binding_numbers.specs.Steps.{number_told}
use Rattle.binding_numbers.proofs.Numbers.{number_went, number_lost, went_in, went_small, lost_in, ended_lost, ended_went, passed_ok, passed_err, exit}
use Rattle.binding_numbers.proofs.number_line.Goals as goal

pub returns-in_err-read : goal.returns-in_err-read
unfolding number_told
returns-in_err-read c =
    let w = c.number.ensures in
    let e = c.in_err-read.was in
    rw (exit c.from_residual.ensures.1) (record { tells = ended_lost _ _ (number_lost w e); inside = lost_in w e; small = omega arith })

pub returns-in_err-next : goal.returns-in_err-next
unfolding number_told
returns-in_err-next c =
    let w = c.number.ensures in
    let e = c.in_ok-read.was in
    let p = passed_err _ _ _ _ (sym c.past.ensures ∙ c.in_err-next.was) in
    rw (exit c.from_residual-in_err-next.ensures.1)
    (record { tells = ended_went _ _ (number_went w e) ∙ p.1; inside = rw p.0 (went_in w e); small = omega arith })

pub returns : goal.returns
unfolding number_told
returns c =
    let w = c.number.ensures in
    let e = c.in_ok-read.was in
    let p = passed_ok _ _ _ (λ z. got _ z) (sym c.past.ensures ∙ c.in_ok-next.was) in
    record { tells = ended_went _ _ (number_went w e) ∙ p.1; inside = p.0; small = went_small w e }
