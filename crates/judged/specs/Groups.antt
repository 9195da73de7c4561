-- Which rules of a plan fire, on lists. Assumes nothing: these are definitions.
use Rattle.std.specs.Prelude.{Bool, true, false, ◌&&◌, ◌||◌, List, [], ◌∷◌, ℕ, zero, suc, eqb}
use Rattle.language.specs.Values.{bit_of}
use Rattle.plan.specs.Layout.{group_at, rules_before, present_at, absent_at}
use Rattle.judged.specs.declared.Refusal.TheVariants.{Unmatched, Ambiguous}
use Rattle.judged.specs.Answers.{number_of}

module _ (p : List ℕ) where
  -- "a rule matches by and-ing the cycle's presence mask with its two masks": by bits
  unfoldable pub bits_agree : ℕ → ℕ → ℕ → Bool
  bits_agree mask r zero = true
  bits_agree mask r (suc k) = bits_agree mask r k && (eqb (bit_of (present_at p r) k) 0 || eqb (bit_of mask k) 1) && (eqb (bit_of (absent_at p r) k) 0 || eqb (bit_of mask k) 0)

  unfoldable pub matches_of : ℕ → ℕ → Bool
  matches_of mask r = bits_agree mask r 32

  -- the rules of n from r on that match
  unfoldable pub matching : ℕ → ℕ → ℕ → List ℕ
  matching mask r zero = []
  matching mask r (suc n) = elim (matches_of mask r) [ true ↦ r ∷ matching mask (suc r) n | false ↦ matching mask (suc r) n ]

  pub data Fired : Type 0 where
    fired : List ℕ → Fired
    unfired : ℕ → Fired

  -- the rules that fire, a group after the other, n groups from g on
  unfoldable pub firing : ℕ → ℕ → ℕ → Fired
  firing mask g zero = fired []
  firing mask g (suc n) =
      elim (matching mask (rules_before p g) (group_at p g)) [
        | [] ↦ unfired (number_of Unmatched)
        | r ∷ [] ↦ elim (firing mask (suc g) n) [ fired l ↦ fired (r ∷ l) | unfired k ↦ unfired k ]
        | r ∷ q ∷ l ↦ unfired (number_of Ambiguous)
      ]
