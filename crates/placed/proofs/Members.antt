-- Members of two lists one after the other, of the lists made of each of a list, and of the place where a test passes. Assumes nothing.
use mathlib.Core.Path.{◌≡◌, refl, subst}
use mathlib.Core.Logic.{◌⊎◌, inl, inr, ⊎_elim}
use mathlib.Core.Bool.{Bool, true, false}
use mathlib.Core.List.{List, [], ◌∷◌, ◌++◌}
use Prim.Native.Nat.{ℕ}
use Rattle.language.specs.Parts.{each}
use Rattle.language.specs.Names.{when}
use Rattle.placed.specs.Members.{Member, here, there}

module _ {A : Type 0} {x : A} where
  pub member_none : Member x [] → ⊥
  member_none m = elim m [ ]

  pub member_cases : {y : A} {l : List A} → Member x (y ∷ l) → (x ≡ y) ⊎ Member x l
  member_cases (here e) = inl e
  member_cases (there m) = inr m

  -- one after the other
  pub member_left : {a : List A} (b : List A) → Member x a → Member x (a ++ b)
  member_left b (here e) = here e
  member_left b (there m) = there (member_left b m)

  pub member_right : (a : List A) {b : List A} → Member x b → Member x (a ++ b)
  member_right [] m = m
  member_right (y ∷ a) m = there (member_right a m)

  pub member_append : (a : List A) {b : List A} → Member x (a ++ b) → Member x a ⊎ Member x b
  member_append [] m = inr m
  member_append (y ∷ a) m = ⊎_elim (λ e. inl (here e)) (λ n. ⊎_elim (λ r. inl (there r)) (λ r. inr r) (member_append a n)) (member_cases m)

-- of each
module _ {A B : Type 0} (f : A → List B) {y : B} where
  pub member_each : {x : A} {l : List A} → Member x l → Member y (f x) → Member y (each f l)
  unfolding each
  member_each {l = []} m0 m = elim m0 [ ]
  member_each {l = z ∷ l} (here e) m = member_left (each f l) (subst (λ (w : A). Member y (f w)) e m)
  member_each {l = z ∷ l} (there n) m = member_right (f z) (member_each n m)

  pub each_member : (l : List A) → Member y (each f l) → (x : A) × Member x l × Member y (f x)
  unfolding each
  each_member [] m = absurd (member_none m)
  each_member (z ∷ l) m = ⊎_elim (λ n. (z, here refl, n)) (λ n. let r = each_member l n in (r.0, there r.1, r.2)) (member_append (f z) m)

-- where a test passes
pub member_when : {b : Bool} (p : ℕ) → b ≡ true → Member p (when b p)
unfolding when
member_when p e = rw e (here refl)

pub when_member : (b : Bool) {p q : ℕ} → Member q (when b p) → (b ≡ true) × (q ≡ p)
unfolding when
when_member true m = ⊎_elim (λ e. (refl, e)) (λ n. absurd (member_none n)) (member_cases m)
when_member false m = absurd (member_none m)
