-- Laws of bytes, their spans and parts, each at a place of a text. Assumes nothing.
use mathlib.Core.Path.{◌≡◌, refl, sym, ap, ◌∙◌}
use mathlib.Core.Bool.{Bool, true, false, cond, ◌&&◌}
use mathlib.Core.List.{List, [], ◌∷◌}
use Prim.Native.Nat.{ℕ, suc, ◌+◌, ◌-◌, ◌≤◌, ◌<◌}
use native.Mathlib.Omega.{arith}
use native.Mathlib.Numerals.{add-one}
use lib.Dec.{leb, eqb}
use lib.ListN.{length, take, drop, get_or, drop_of_length-le, length-drop}
use lib.Seq.{drop-cons, take_all}
use borrow.Author.Tests.{le-leb}
use Rattle.std.specs.List.{prefix_len, starts_with}
use Rattle.std.proofs.lemmas.Bool.Decides.{nat_tests}
use Rattle.std.proofs.lemmas.List.{get_or-drop}
use Rattle.std.proofs.lemmas.List.Sums.{prefix_len-le-length}
use Rattle.std.proofs.lemmas.List.Folds.{length-prefix_len}
use Rattle.language.specs.Words.{begins, span, name_byte, digit_of}
use Rattle.spelling.proofs.Laws.{never}

-- ---- what a digit is worth

pub worth_digit : (b : ℕ) → b ≤ 57 → digit_of b ≡ b - 48
unfolding digit_of
worth_digit b h = simp (digit_of, le-leb _ _ h)

-- ---- what std's methods tell

pub span_std : (t : ℕ → Bool) (s : List ℕ) → prefix_len t s ≡ length (span t s)
unfolding span
span_std t [] = refl
span_std t (b ∷ r) =
    elim (t b) as (λ (x : Bool). cond x (1 + prefix_len t r) 0 ≡ length {A = ℕ} (elim x as (λ (y : Bool). List ℕ) [ true ↦ b ∷ span t r | false ↦ [] ])) [
      | true ↦ (let h = span_std t r in omega (arith, h))
      | false ↦ refl
    ]

pub rest_std : (text : List ℕ) (at : ℕ) → take (length text - at) (drop at text) ≡ drop at text
rest_std text at = take_all (length text - at) (drop at text) (omega (arith, length-drop at text))

pub span_counted : (t : ℕ → Bool) (text : List ℕ) (at n : ℕ) → at ≤ length text → n ≡ length (take (prefix_len t (take (length text - at) (drop at text))) (take (length text - at) (drop at text))) → (at + n ≤ length text) × (n ≡ length (span t (drop at text)))
span_counted t text at n h e =
    let q : n ≡ prefix_len t (drop at text) = rw rest_std at e ∙ length-prefix_len t (drop at text) in
    (omega (arith, prefix_len-le-length t (drop at text), length-drop at text), q ∙ span_std t (drop at text))

starts_std : (p s : List ℕ) → starts_with eqb s p ≡ begins p s
unfolding begins
starts_std [] s = refl
starts_std (a ∷ p) [] = refl
starts_std (a ∷ p) (b ∷ s) = ap (λ (x : Bool). eqb a b && x) (starts_std p s)

pub begins_std : (p text : List ℕ) (at : ℕ) → starts_with eqb (take (length text - at) (drop at text)) p ≡ begins p (drop at text)
begins_std p text at = rw rest_std (starts_std p (drop at text))

-- ---- spans

module _ (t : ℕ → Bool) (text : List ℕ) (i : ℕ) where
  pub span_over : length text ≤ i → length (span t (drop i text)) ≡ 0
  unfolding span
  span_over h = rw (drop_of_length-le text h)

  module _ (h : i < length text) where
    pub span_stop : t (get_or text i 0) ≡ false → length (span t (drop i text)) ≡ 0
    unfolding span
    span_stop e = rw (drop-cons text i 0 h) (simp (span, e))

    pub span_next : t (get_or text i 0) ≡ true → length (span t (drop i text)) ≡ suc (length (span t (drop (i + 1) text)))
    unfolding span
    span_next e = rw (add-one, drop-cons text i 0 h) (simp (span, e))

pub span_taken : (t : ℕ → Bool) (bs : List ℕ) → take (length (span t bs)) bs ≡ span t bs
unfolding span
span_taken t [] = refl
span_taken t (b ∷ r) =
    elim (t b) as (λ (x : Bool). take (length {A = ℕ} (elim x as (λ (y : Bool). List ℕ) [ true ↦ b ∷ span t r | false ↦ [] ])) (b ∷ r) ≡ elim x as (λ (y : Bool). List ℕ) [ true ↦ b ∷ span t r | false ↦ [] ]) [
      | true ↦ ap (λ (l : List ℕ). b ∷ l) (span_taken t r)
      | false ↦ refl
    ]

-- ---- a part of a text

-- a part as long as the run of name bytes at its place is the name there
pub part_name : (text : List ℕ) (at : ℕ) {n : ℕ} {l : List ℕ} → l ≡ take n (drop at text) → n ≡ length (span name_byte (drop at text)) → l ≡ span name_byte (drop at text)
part_name text at e h = e ∙ ap (λ (n : ℕ). take n (drop at text)) h ∙ span_taken name_byte (drop at text)

-- ---- two bytes at a place

pub begins_length : (s bs : List ℕ) → begins s bs ≡ true → length s ≤ length bs
unfolding begins
begins_length [] bs e = omega arith
begins_length (a ∷ s) [] e = never (sym e)
begins_length (a ∷ s) (b ∷ bs) e = let h = begins_length s bs (right (eqb a b) (begins s bs) e) in omega arith
  where
    right : (x y : Bool) → (x && y) ≡ true → y ≡ true
    right true y e = e
    right false y e = never (sym e)

-- both stand there where there is room for two, and each is the byte there
pair_of : (a b : ℕ) (s : List ℕ) → begins (a ∷ b ∷ []) s ≡ (leb 2 (length s) && eqb (get_or s 0 0) a && eqb (get_or s 1 0) b)
unfolding begins
pair_of a b [] = grind (arith, nat_tests)
pair_of a b (x ∷ []) = grind (arith, nat_tests)
pair_of a b (x ∷ y ∷ s) = grind (arith, nat_tests)

pub pair_is : (text : List ℕ) (at a b : ℕ) → begins (a ∷ b ∷ []) (drop at text) ≡ (leb 2 (length text - at) && eqb (get_or text at 0) a && eqb (get_or text (at + 1) 0) b)
pair_is text at a b =
    let first : get_or (drop at text) 0 0 ≡ get_or text at 0 = get_or-drop at text 0 0 ∙ ap (λ (i : ℕ). get_or text i 0) (omega arith) in
    rw (← length-drop at text, ← first, ← get_or-drop at text 1 0) (pair_of a b (drop at text))

pub pair_room : (text : List ℕ) (at a b : ℕ) → at ≤ length text → begins (a ∷ b ∷ []) (drop at text) ≡ true → at + 2 ≤ length text
pair_room text at a b h e = let k = begins_length (a ∷ b ∷ []) (drop at text) e in omega (arith, k, length-drop at text)
