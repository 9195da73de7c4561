-- The earliest of some places goes by which places there are, and not by their order or how often each stands. Assumes nothing.
use mathlib.Core.Path.{◌≡◌, refl, ap, subst}
use mathlib.Core.Logic.{⊎_elim}
use mathlib.Core.Bool.{Bool, true, false}
use mathlib.Core.List.{List, [], ◌∷◌}
use mathlib.Core.Option.{Option, none, some}
use Prim.Native.Nat.{ℕ, min, ◌≤◌}
use native.Mathlib.Omega.{arith}
use lib.Dec.{leb}
use borrow.Author.Tests.{leb-true, leb-false}
use Rattle.language.specs.Text.{earliest}
use Rattle.placed.specs.Members.{Member, here, there}
use Rattle.placed.proofs.Members.{member_none, member_cases}

-- there is no place; or p is one, and none is before it
abbrev First : Option ℕ → List ℕ → Type 0
First none l = (q : ℕ) → Member q l → ⊥
First (some p) l = Member p l × ((q : ℕ) → Member q l → p ≤ q)

first_of_two : (p r : ℕ) (l : List ℕ) → First (some r) l → First (some (min p r)) (p ∷ l)
first_of_two p r l h = (go (leb p r) refl, λ q m. ⊎_elim (λ e. omega arith) (λ n. let k = h.1 q n in omega arith) (member_cases m))
  where
    go : (b : Bool) → leb p r ≡ b → Member (min p r) (p ∷ l)
    go true e = let k = leb-true p r e in let m : min p r ≡ p = omega arith in here m
    go false e = let k = leb-false p r e in let m : r ≡ min p r = omega arith in there (subst (λ (q : ℕ). Member q l) m h.0)

earliest_first : (l : List ℕ) → First (earliest l) l
unfolding earliest
earliest_first [] = λ q m. member_none m
earliest_first (p ∷ l) = go (earliest l) (earliest_first l)
  where
    go : (o : Option ℕ) → First o l → First (elim o as (λ (x : Option ℕ). Option ℕ) [ none ↦ some p | some q ↦ some (min p q) ]) (p ∷ l)
    go none h = (here refl, λ q m. ⊎_elim (λ e. omega arith) (λ n. absurd (h q n)) (member_cases m))
    go (some r) h = first_of_two p r l h

module _ {xs ys : List ℕ} (f : (p : ℕ) → Member p xs → Member p ys) (g : (p : ℕ) → Member p ys → Member p xs) where
  first_same : (a b : Option ℕ) → First a xs → First b ys → a ≡ b
  first_same none none h k = refl
  first_same none (some q) h k = absurd (h q (g q k.0))
  first_same (some p) none h k = absurd (k p (f p h.0))
  first_same (some p) (some q) h k = let i = h.1 q (g q k.0) in let j = k.1 p (f p h.0) in ap some (omega arith)

  pub earliest_same : earliest xs ≡ earliest ys
  earliest_same = first_same (earliest xs) (earliest ys) (earliest_first xs) (earliest_first ys)
