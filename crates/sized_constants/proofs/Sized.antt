-- Laws of the digits of sized constants: the base that a letter names, and a value that is exact or too big. Assumes nothing.
use mathlib.Core.Path.{◌≡◌, refl, sym, ap, ◌∙◌}
use mathlib.Core.Bool.{Bool, true, false}
use mathlib.Core.List.{List, [], ◌∷◌}
use Prim.Native.Nat.{ℕ, zero, suc, ◌+◌, ◌*◌, ◌≤◌, ◌<◌}
use native.Mathlib.Omega.{arith}
use native.Mathlib.Numerals.{add-one}
use native.Mathlib.Nat.{mul-suc}
use lib.Dec.{ltb, eqb}
use lib.ListN.{length, drop, get_or, drop_of_length-le, get_or-eq_default}
use lib.Seq.{drop-cons}
use borrow.Author.Tests.{lt-ltb, le-ltb, ltb-true, ltb-false, ne_eqb}
use Rattle.language.specs.Words.{span, plain_byte, digit_of, digit_in, base_of, one_of, some_of, bytes, value_in_base}
use Rattle.spelling.proofs.Laws.{both_left, both_right, never}
use Rattle.sized_constants.specs.Constant.{amount_of, constant_at}
use Rattle.std.specs.Prelude.{Option, Some, None, SomeIff}

-- ---- a base

two : (x y b : ℕ) → (x ≡ b → ⊥) → (y ≡ b → ⊥) → some_of (λ c. eqb c b) (x ∷ y ∷ []) ≡ false
unfolding some_of
two x y b h k = simp (some_of, ne_eqb x b h, ne_eqb y b k)

pub base_none : (b : ℕ) → (b ≡ 100 → ⊥) → (b ≡ 68 → ⊥) → (b ≡ 111 → ⊥) → (b ≡ 79 → ⊥) → (b ≡ 104 → ⊥) → (b ≡ 72 → ⊥) → (b ≡ 98 → ⊥) → (b ≡ 66 → ⊥) → base_of b ≡ 0
unfolding base_of one_of bytes
base_none b p q r s t u v w = simp (base_of, one_of, neither 100 68 (λ e. p (sym e)) (λ e. q (sym e)), neither 111 79 (λ e. r (sym e)) (λ e. s (sym e)), neither 104 72 (λ e. t (sym e)) (λ e. u (sym e)), neither 98 66 (λ e. v (sym e)) (λ e. w (sym e)))
  where
    neither : (x y : ℕ) → (x ≡ b → ⊥) → (y ≡ b → ⊥) → some_of (λ c. eqb c b) (x ∷ y ∷ []) ≡ false
    neither x y h k = two x y b h k

some_base : (w x y z : Bool) → (◌≡◌ {A = ℕ} (elim w as (λ (t : Bool). ℕ) [ true ↦ 10 | false ↦ elim x as (λ (t : Bool). ℕ) [ true ↦ 8 | false ↦ elim y as (λ (t : Bool). ℕ) [ true ↦ 16 | false ↦ elim z as (λ (t : Bool). ℕ) [ true ↦ 2 | false ↦ 0 ] ] ] ]) 0 → ⊥)
    → 2 ≤ elim w as (λ (t : Bool). ℕ) [ true ↦ 10 | false ↦ elim x as (λ (t : Bool). ℕ) [ true ↦ 8 | false ↦ elim y as (λ (t : Bool). ℕ) [ true ↦ 16 | false ↦ elim z as (λ (t : Bool). ℕ) [ true ↦ 2 | false ↦ 0 ] ] ] ]
some_base true x y z h = omega arith
some_base false true y z h = omega arith
some_base false false true z h = omega arith
some_base false false false true h = omega arith
some_base false false false false h = absurd (h refl)

pub base_some : (b : ℕ) → (base_of b ≡ 0 → ⊥) → 2 ≤ base_of b
unfolding base_of
base_some b h = some_base (one_of "dD" b) (one_of "oO" b) (one_of "hH" b) (one_of "bB" b) h

pub base_small : (b : ℕ) → base_of b ≤ 16
unfolding base_of
base_small b = go (one_of "dD" b) (one_of "oO" b) (one_of "hH" b) (one_of "bB" b)
  where
    go : (p q r s : Bool) → elim p [ true ↦ 10 | false ↦ elim q [ true ↦ 8 | false ↦ elim r [ true ↦ 16 | false ↦ elim s [ true ↦ 2 | false ↦ 0 ] ] ] ] ≤ 16
    go true q r s = omega arith
    go false true r s = omega arith
    go false false true s = omega arith
    go false false false true = omega arith
    go false false false false = omega arith

-- ---- a digit

pub plain_of : (base b : ℕ) → digit_in base b ≡ true → plain_byte b ≡ true
unfolding digit_in
plain_of base b e = both_left (plain_byte b) (ltb (digit_of b) base) e

pub below_of : (base b : ℕ) → digit_in base b ≡ true → digit_of b < base
unfolding digit_in
below_of base b e = ltb-true (digit_of b) base (both_right (plain_byte b) (ltb (digit_of b) base) e)

-- ---- an amount

pub amount_exact : (n : ℕ) → n < 18446744073709551616 → amount_of n ≡ Some n
unfolding amount_of
amount_exact n h = simp (amount_of, lt-ltb n 18446744073709551616 h)

pub amount_big : (n : ℕ) → 18446744073709551616 ≤ n → amount_of n ≡ None
unfolding amount_of
amount_big n h = simp (amount_of, le-ltb n 18446744073709551616 h)

-- what a checked sum gives
pub amount_told : {r : Option ℕ} (n : ℕ) → SomeIff r (n < 18446744073709551616) n → r ≡ amount_of n
amount_told {r = Some x} n h = rw h.1 (sym (amount_exact n h.0))
amount_told {r = None} n h = sym (amount_big n (omega arith))

exactly : Option ℕ → ℕ
exactly (Some x) = x
exactly None = 0

is_big : Option ℕ → Bool
is_big (Some x) = false
is_big None = true

pub exact_is : (x n : ℕ) → Some x ≡ amount_of n → n ≡ x
unfolding exactly is_big
exact_is x n e = go (ltb n 18446744073709551616) refl
  where
    go : (t : Bool) → ltb n 18446744073709551616 ≡ t → n ≡ x
    go true q = sym (ap exactly (e ∙ amount_exact n (ltb-true _ _ q)))
    go false q = never (sym (ap is_big (e ∙ amount_big n (ltb-false _ _ q))))

pub big_is : (n : ℕ) → None ≡ amount_of n → 18446744073709551616 ≤ n
unfolding is_big
big_is n e = go (ltb n 18446744073709551616) refl
  where
    go : (t : Bool) → ltb n 18446744073709551616 ≡ t → 18446744073709551616 ≤ n
    go true q = never (ap is_big (e ∙ amount_exact n (ltb-true _ _ q)))
    go false q = ltb-false _ _ q

-- ---- one digit more

module _ (base d : ℕ) (h : d < base) where
  grows : (n : ℕ) → n ≤ n * base
  grows n = go base h
    where
      go : (k : ℕ) → d < k → n ≤ n * k
      go zero z = absurd (omega arith)
      go (suc k) z = rw (mul-suc n k) (omega arith)

  pub raised_big : (n : ℕ) → None ≡ amount_of n → None ≡ amount_of (n * base + d)
  raised_big n e = let p = big_is n e in let q = grows n in sym (amount_big _ (omega (arith, p, q)))

-- ---- the digits from a place on

module _ (base : ℕ) (text : List ℕ) (i n : ℕ) where
  pub digits_next : i < length text → digit_in base (get_or text i 0) ≡ true → value_in_base base n (span (digit_in base) (drop i text)) ≡ value_in_base base (n * base + digit_of (get_or text i 0)) (span (digit_in base) (drop (i + 1) text))
  unfolding span value_in_base
  digits_next h e = rw (add-one, drop-cons text i 0 h) (simp (span, value_in_base, e))

  pub digits_stop : i < length text → digit_in base (get_or text i 0) ≡ false → value_in_base base n (span (digit_in base) (drop i text)) ≡ n
  unfolding span value_in_base
  digits_stop h e = rw (drop-cons text i 0 h) (simp (span, value_in_base, e))

  pub digits_over : length text ≤ i → value_in_base base n (span (digit_in base) (drop i text)) ≡ n
  unfolding span value_in_base
  digits_over h = rw (drop_of_length-le text h)

-- where no letter stands after the `'`
pub constant_none : (text : List ℕ) (at : ℕ) → length text ≤ at + 1 → amount_of (constant_at text at) ≡ Some 0
unfolding constant_at base_of one_of some_of bytes span value_in_base
constant_none text at h = rw (get_or-eq_default text 0 h, drop_of_length-le text (past h)) (amount_exact 0 (omega arith))
  where
    past : length text ≤ at + 1 → length text ≤ at + 2
    past h = omega arith
