-- The earliest of some places, put together. Assumes nothing.
use mathlib.Core.Path.{◌≡◌, refl, sym, ap, ◌∙◌}
use mathlib.Core.List.{List, [], ◌∷◌, ◌++◌}
use mathlib.Core.Option.{Option, none, some}
use Prim.Native.Nat.{ℕ, min}
use native.Mathlib.Omega.{arith}
use Rattle.language.specs.Text.{earliest}
use Rattle.words.specs.Found.{Place}
use Rattle.std.specs.Prelude.{Some, None}
use Rattle.words.specs.Found.{earlier_of, place_told}
use Rattle.size_walk.specs.Effects.{sooner_of}

-- the place of the earliest of some faults
abbrev pub told : List ℕ → Place
told l = place_told (earliest l)

pub sooner_none : (q : Place) → sooner_of q None ≡ q
unfolding sooner_of earlier_of
sooner_none None = refl
sooner_none (Some p) = refl

pub sooner_assoc : (a b c : Place) → sooner_of a (sooner_of b c) ≡ sooner_of (sooner_of a b) c
unfolding sooner_of earlier_of
sooner_assoc None b c = refl
sooner_assoc (Some p) None c = refl
sooner_assoc (Some p) (Some q) None = refl
sooner_assoc (Some p) (Some q) (Some r) = ap Some (let e : min p (min q r) ≡ min (min p q) r = omega arith in e)

pub sooner_comm : (a b : Place) → sooner_of a b ≡ sooner_of b a
unfolding sooner_of earlier_of
sooner_comm None None = refl
sooner_comm None (Some q) = refl
sooner_comm (Some p) None = refl
sooner_comm (Some p) (Some q) = ap Some (let e : min p q ≡ min q p = omega arith in e)

told_next : (p : ℕ) (l : List ℕ) → told (p ∷ l) ≡ sooner_of (Some p) (told l)
unfolding earliest place_told sooner_of earlier_of
told_next p l = go (earliest l)
  where
    go : (o : Option ℕ) → place_told (elim o [ none ↦ some p | some q ↦ some (min p q) ]) ≡ earlier_of p (place_told o)
    go none = refl
    go (some q) = refl

pub told_both : (k l : List ℕ) → told (k ++ l) ≡ sooner_of (told k) (told l)
unfolding sooner_of earliest place_told
told_both [] l = refl
told_both (p ∷ k) l = told_next p (k ++ l) ∙ ap (sooner_of (Some p)) (told_both k l) ∙ sooner_assoc (Some p) (told k) (told l) ∙ ap (λ (x : Place). sooner_of x (told l)) (sym (told_next p k))

-- what came later is told first
pub told_after : (k l : List ℕ) (q : Place) → sooner_of (told l) (sooner_of (told k) q) ≡ sooner_of (told (k ++ l)) q
told_after k l q = sooner_assoc (told l) (told k) q ∙ ap (λ (x : Place). sooner_of x q) (sooner_comm (told l) (told k) ∙ sym (told_both k l))
