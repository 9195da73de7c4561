-- `binding_numbers::blank_number` meets its contract. Assumes nothing.
use Prim.Native.Nat.{ℕ}
use native.Mathlib.Omega.{arith}
use mathlib.Core.Path.{sym, ◌∙◌}
use Rattle.language.specs.Bindings.{lost}
use Rattle.binding_numbers.specs.Steps.{number_told, valued}
use Rattle.binding_numbers.proofs.Numbers.{passed_ok, passed_err, exit}
use Rattle.binding_numbers.proofs.blank_number.Goals as goal

pub returns-in_err-at : goal.returns-in_err-at
unfolding number_told valued
returns-in_err-at c =
    let p = passed_err _ _ _ _ (sym c.past.ensures ∙ c.in_err-at.was) in
    rw (exit c.from_residual.ensures.1) (record { tells = p.1; inside = rw p.0 (c.requires.0); small = omega arith })

pub number_line-requires : goal.number_line-requires
number_line-requires c = ((passed_ok c.args.text.now 32 c.args.from {T = ℕ} (λ z. lost z) (sym c.past.ensures ∙ c.in_ok-at.was)).0, c.requires.1)

pub returns : goal.returns
unfolding valued
returns c = let w = c.number_line.ensures in record { tells = (passed_ok _ _ _ _ (sym c.past.ensures ∙ c.in_ok-at.was)).1 ∙ w.tells; inside = w.inside; small = w.small }
