-- The types of the unknowns so far, one more, and all. Assumes nothing.
use mathlib.Core.Path.{◌≡◌, refl, sym, ap, ◌∙◌, subst}
use mathlib.Core.List.{List, [], ◌∷◌, ◌++◌}
use Prim.Native.Nat.{ℕ, ◌+◌, ◌<◌}
use native.Mathlib.Nat.{not-suc-le-zero, add-zero}
use lib.ListN.{length, get_or, length-append, get_or-append}
use lib.Seq.{get_or-append-add}
use borrow.Author.Count.{below_more}
use Rattle.type_value.specs.Terms.{Term, number, TypeOf}
use Rattle.type_value.specs.Walk.{TermStands}
use Rattle.typing.specs.Solved.{Coded}

pub record Upto (code starts ends : List ℕ) (n i : ℕ) : Type 0 where
  pub types : List Term
  pub count : length types ≡ i
  pub each : (j : ℕ) → j < i → TermStands (get_or types j (number 0)) code (get_or starts j 0) (get_or ends j 0) × TypeOf n (get_or types j (number 0))

module _ (code starts ends : List ℕ) (n : ℕ) where
  pub none : Upto code starts ends n 0
  none = record { types = []; count = refl; each = λ j h. absurd (not-suc-le-zero h) }

  pub more : (i : ℕ) (t : Term) → Upto code starts ends n i → TermStands t code (get_or starts i 0) (get_or ends i 0) → TypeOf n t → Upto code starts ends n (i + 1)
  more i t u s y = record {
    types = u.types ++ (t ∷ []);
    count = length-append u.types (t ∷ []) ∙ ap (λ (k : ℕ). k + 1) u.count;
    each = below_more (λ (j : ℕ). TermStands (get_or (u.types ++ (t ∷ [])) j (number 0)) code (get_or starts j 0) (get_or ends j 0) × TypeOf n (get_or (u.types ++ (t ∷ [])) j (number 0))) i
        (λ j h. subst (λ (x : Term). TermStands x code (get_or starts j 0) (get_or ends j 0) × TypeOf n x) (sym (get_or-append u.types (t ∷ []) (number 0) j (subst (λ (k : ℕ). j < k) (sym u.count) h))) (u.each j h))
        (subst (λ (x : Term). TermStands x code (get_or starts i 0) (get_or ends i 0) × TypeOf n x) (sym last) (s, y));
  }
    where
      last : get_or (u.types ++ (t ∷ [])) i (number 0) ≡ t
      last = ap (λ (k : ℕ). get_or (u.types ++ (t ∷ [])) k (number 0)) (sym u.count ∙ sym (add-zero (length u.types))) ∙ get_or-append-add u.types (t ∷ []) 0 (number 0)

pub all : (code starts ends : List ℕ) (i : ℕ) → i ≡ length starts → length starts ≡ length ends → Upto code starts ends (length starts) i → (ts : List Term) × Coded ts code starts ends
all code starts ends i e f u =
    let c : length starts ≡ length u.types = sym e ∙ sym u.count in (
      u.types,
      record {
        count = c;
        counted = sym f ∙ c;
        each = λ j h. (u.each j (subst (λ (k : ℕ). j < k) u.count h)).0;
        right = λ j h. subst (λ (k : ℕ). TypeOf k (get_or u.types j (number 0))) c (u.each j (subst (λ (k : ℕ). j < k) u.count h)).1;
      },
    )
