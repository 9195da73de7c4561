-- Laws of bytes, runs and fixed words, on numbers and lists alone. Assumes nothing.
use mathlib.Core.Path.{◌≡◌, refl, sym, ap, ◌∙◌}
use mathlib.Core.Bool.{Bool, true, false, not, cond, ◌&&◌, ◌||◌}
use mathlib.Core.List.{List, [], ◌∷◌, ◌++◌, map}
use mathlib.Core.Logic.{◌⊎◌, inl, inr}
use Prim.Native.String.{String}
use Prim.Native.Nat.{ℕ, zero, suc, ◌+◌, ◌≤◌, ◌<◌}
use native.Mathlib.Omega.{arith}
use native.Mathlib.Nat.{not-suc-le-zero, le_of_suc-le-suc}
use lib.Dec.{leb, ltb, eqb, leb-suc-suc}
use lib.ListN.{length, get_or}
use Rattle.std.proofs.lemmas.Bool.Decides.{nat_tests}
use borrow.Author.Tests.{ltb-false, leb-true, leb-false, eqb-true, le-leb, lt-leb, lt-ltb, le-ltb}
use denote.Bor.{Bor}
use lib.Pointwise.{pointwise}
use Rattle.std.specs.Char.{is_ascii_alphanumeric}
use Rattle.std.specs.List.{list_any, position, position_or_len}
use Rattle.std.proofs.lemmas.List.Sums.{prefix_len-le-length}
use Rattle.std.specs.Option.{unwrap_or}
use Rattle.std.specs.Prelude.{Option, Some, None}
use Rattle.language.specs.Text.{same, index, among}
use Rattle.language.specs.Words.{bytes, digit, letter, plain_byte, some_of, good_name, spellings, keywords}
use Rattle.spelling.specs.Fixed.{fixed_names}

pub never : {A : Type 0} → true ≡ false → A
never e = absurd (let z : ◌≡◌ {A = ℕ} 0 1 = cc in omega arith)

pub both_left : (a b : Bool) → (a && b) ≡ true → a ≡ true
both_left true b e = refl
both_left false b e = e

pub both_right : (a b : Bool) → (a && b) ≡ true → b ≡ true
both_right true b e = e
both_right false b e = never (sym e)

-- ---- bytes between two others

pub within : (lo hi b : ℕ) → lo ≤ b → b ≤ hi → (leb lo b && leb b hi) ≡ true
within lo hi b h k = simp (le-leb _ _ h, le-leb _ _ k)

pub under : (lo hi b : ℕ) → b < lo → (leb lo b && leb b hi) ≡ false
under lo hi b h = simp (lt-leb _ _ h)

and_false : (t : Bool) → (t && false) ≡ false
and_false true = refl
and_false false = refl

pub above : (lo hi b : ℕ) → hi < b → (leb lo b && leb b hi) ≡ false
above lo hi b h = simp (lt-leb _ _ h, and_false)

or_true : (t : Bool) → (t || true) ≡ true
or_true true = refl
or_true false = refl

pub digit_low : (b : ℕ) → digit b ≡ true → 48 ≤ b
unfolding digit
digit_low b e = leb-true 48 b (both_left (leb 48 b) (leb b 57) e)

pub digit_high : (b : ℕ) → digit b ≡ true → b ≤ 57
unfolding digit
digit_high b e = leb-true b 57 (both_right (leb 48 b) (leb b 57) e)

pub is_neither : (b : ℕ) → (leb 48 b && leb b 57) ≡ false → (leb 65 b && leb b 90) ≡ false → (leb 97 b && leb b 122) ≡ false → plain_byte b ≡ false
unfolding plain_byte digit letter
is_neither b d u l = simp (plain_byte, digit, letter, d, u, l)

-- ---- what std's tests tell

digits_last : (d u l : Bool) → ((d || u) || l) ≡ ((u || l) || d)
digits_last true true l = refl
digits_last true false l = sym (or_true l)
digits_last false true l = refl
digits_last false false true = refl
digits_last false false false = refl

pub plain_std : (b : ℕ) → is_ascii_alphanumeric b ≡ plain_byte b
unfolding plain_byte letter digit
plain_std b = digits_last (leb 48 b && leb b 57) (leb 65 b && leb b 90) (leb 97 b && leb b 122)

pub same_std : (s t : List ℕ) → pointwise eqb s t ≡ same s t
unfolding same
same_std [] [] = refl
same_std [] (b ∷ t) = refl
same_std (a ∷ s) [] = refl
same_std (a ∷ s) (b ∷ t) = ap (λ (x : Bool). eqb a b && x) (same_std s t)

pub some_std : (p : ℕ → Bool) (s : List ℕ) → list_any p s ≡ some_of p s
unfolding some_of
some_std p [] = refl
some_std p (b ∷ s) = ap (λ (x : Bool). p b || x) (some_std p s)

pub index_std : (l : List (Bor (List ℕ))) (s : List ℕ) → position_or_len (λ w. same w.now s) l ≡ index (map (λ w. w.now) l) s
unfolding index
index_std [] s = refl
index_std (n ∷ l) s =
    elim (same n.now s) as (λ (t : Bool). cond (not t) (1 + position_or_len (λ w. same w.now s) l) 0 ≡ elim t as (λ (x : Bool). ℕ) [ true ↦ 0 | false ↦ suc (index (map (λ w. w.now) l) s) ]) [
      | true ↦ refl
      | false ↦ (let h = index_std l s in omega (arith, h))
    ]

-- ---- the fixed words

-- a word is one of the first where its index is below their number
pub among_index : (a b : List (List ℕ)) (s : List ℕ) → among a s ≡ ltb (index (a ++ b) s) (length a)
unfolding among index
among_index [] b s = sym (le-ltb (index b s) 0 (omega arith))
among_index (n ∷ a) b s =
    elim (same n s) as (λ (t : Bool). elim t [ true ↦ true | false ↦ among a s ] ≡ ltb (elim t [ true ↦ 0 | false ↦ suc (index (a ++ b) s) ]) (suc (length a))) [
      | true ↦ sym (lt-ltb 0 (suc (length a)) (omega arith))
      | false ↦ among_index a b s ∙ up (index (a ++ b) s) (length a)
    ]
  where
    up : (x y : ℕ) → ltb x y ≡ ltb (suc x) (suc y)
    up x y = sym (leb-suc-suc (suc x) y)

pub keyword_index : (s : List ℕ) → among (spellings keywords) s ≡ ltb (index (spellings fixed_names) s) 18
unfolding spellings keywords fixed_names
keyword_index s = among_index (spellings keywords) _ s

pub rows_many : length (spellings fixed_names) ≡ 21
unfolding spellings fixed_names keywords bytes
rows_many = refl

or_all : (k n : ℕ) → k ≤ n → unwrap_or (cond (ltb k n) (Some k) None) n ≡ k
or_all k n h = go (ltb k n) refl
  where
    go : (t : Bool) → ltb k n ≡ t → unwrap_or (cond t (Some k) None) n ≡ k
    go true e = refl
    go false e = omega (arith, ltb-false k n e)

-- the place that `position` finds in a list of the fixed words, or their number, is the run's index
pub spelled_std : (l : List (Bor (List ℕ))) (s : List ℕ) (p : Option ℕ) (n : ℕ) → map (λ w. w.now) l ≡ spellings fixed_names → length l ≡ 21 → p ≡ position (λ w. same w.now s) l → n ≡ unwrap_or p 21 → n ≡ index (spellings fixed_names) s
spelled_std l s p n e m h k =
    let q : position_or_len (λ w. same w.now s) l ≤ 21 = omega (arith, prefix_len-le-length (λ w. not (same w.now s)) l) in
    k ∙ ap (λ (x : Option ℕ). unwrap_or x 21) (h ∙ ap (λ (x : ℕ). cond (ltb (position_or_len (λ w. same w.now s) l) x) (Some (position_or_len (λ w. same w.now s) l)) None) m) ∙ or_all (position_or_len (λ w. same w.now s) l) 21 q ∙ index_std l s ∙ ap (λ (x : List (List ℕ)). index x s) e

not_below : (n k : ℕ) → not (ltb k n) ≡ leb n k
not_below n k = grind (arith, nat_tests)

-- a run is good where it has a letter or a digit, is short enough, and is no keyword
pub good_name_is : (s : List ℕ) → good_name s ≡ (some_of plain_byte s && leb (length s) 31 && leb 18 (index (spellings fixed_names) s))
unfolding good_name
good_name_is s = simp (good_name, keyword_index, not_below)

-- ---- a test at each number below another

order : (n k : ℕ) → (n ≤ k) ⊎ (k < n)
order n k = go (leb n k) refl
  where
    go : (b : Bool) → leb n k ≡ b → (n ≤ k) ⊎ (k < n)
    go true e = inl (leb-true n k e)
    go false e = inr (leb-false n k e)

-- a test at each number below n, which antt computes
unfoldable pub all_below : ℕ → (ℕ → Bool) → Bool
all_below zero f = true
all_below (suc n) f = f n && all_below n f

pub below_all : (n : ℕ) (f : ℕ → Bool) → all_below n f ≡ true → (k : ℕ) → k < n → f k ≡ true
unfolding all_below
below_all zero f e k h = absurd (not-suc-le-zero h)
below_all (suc n) f e k h =
    elim (order n k) [
      | inl l ↦ (let q : k ≡ n = omega arith in ap f q ∙ both_left (f n) (all_below n f) e)
      | inr l ↦ below_all n f (both_right (f n) (all_below n f) e) k l
    ]

-- ---- runs that are the same, and a list's spelling

pub same_eq : (s t : List ℕ) → same s t ≡ true → s ≡ t
unfolding same
same_eq [] [] e = refl
same_eq [] (b ∷ t) e = never (sym e)
same_eq (a ∷ s) [] e = never (sym e)
same_eq (a ∷ s) (b ∷ t) e = let p = eqb-true a b (both_left (eqb a b) (same s t) e) in let q = same_eq s t (both_right (eqb a b) (same s t) e) in cc

pub spelling_at : (l : List String) (j : ℕ) → j < length l → get_or (spellings l) j [] ≡ bytes (get_or l j "")
unfolding spellings
spelling_at [] j h = absurd (not-suc-le-zero h)
spelling_at (s ∷ l) zero h = refl
spelling_at (s ∷ l) (suc j) h = spelling_at l j (le_of_suc-le-suc h)
