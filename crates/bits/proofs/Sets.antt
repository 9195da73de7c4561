-- Masks as sets of ports: what two tests on `&` say of each bit. Assumes nothing.
use mathlib.Core.Path.{◌≡◌, refl, sym, ap, ap₂, ◌∙◌}
use mathlib.Core.Bool.{Bool, true, false, not, ◌&&◌, ◌||◌, false≢true}
use mathlib.Core.Logic.{◌⊎◌, inl, inr, ⊎_elim}
use Prim.Native.Nat.{ℕ, zero, suc, ◌%◌, ◌^◌, ◌≤◌, ◌<◌, min}
use native.Mathlib.Nat.{lt_of_lt_of_le, lt_of_not-le, zero-div, zero-lt-suc, lt-suc_self, lt_trans, le_of_suc-le-suc}
use native.Mathlib.Omega.{arith}
use lib.Dec.{eqb}
use lib.Pow.{pow_pos}
use lib.Bits.{bit_and, and_lt}
use borrow.Author.Tests.{eqb-true, eq-eqb}
use Rattle.language.specs.Values.{bit_of}
use Rattle.bits.specs.Masks.{bit_matches, matches_in}
use Rattle.bits.proofs.Digits.{bit_lt, bit_past, and_bit, same_bits}

-- ---- what `&&` and "if .. then" say

pub both_left : (x y : Bool) → (x && y) ≡ true → x ≡ true
both_left true y h = refl
both_left false y h = h

pub both_right : (x y : Bool) → (x && y) ≡ true → y ≡ true
both_right true y h = h
both_right false y h = absurd (false≢true h)

then_to : (x y : Bool) → (not x || y) ≡ true → x ≡ true → y ≡ true
then_to true y h e = h
then_to false y h e = absurd (false≢true e)

then_from : (x y : Bool) → (x ≡ true → y ≡ true) → (not x || y) ≡ true
then_from true y f = f refl
then_from false y f = refl

pub same_truth : (x y : Bool) → (x ≡ true → y ≡ true) → (y ≡ true → x ≡ true) → x ≡ y
same_truth true y f g = sym (f refl)
same_truth false true f g = g refl
same_truth false false f g = refl

-- ---- a rule's masks, port by port

-- each port required present is present, and each required absent is not
pub record Matches (w mask present absent : ℕ) : Type 0 where
  pub there : (k : ℕ) → k < w → bit_of present k ≡ 1 → bit_of mask k ≡ 1
  pub away : (k : ℕ) → k < w → bit_of absent k ≡ 1 → bit_of mask k ≡ 0

there_bit : (m p a : ℕ) → bit_matches m p a ≡ true → p ≡ 1 → m ≡ 1
unfolding bit_matches
there_bit m p a h e = eqb-true m 1 (then_to (eqb p 1) (eqb m 1) (both_left (not (eqb p 1) || eqb m 1) (not (eqb a 1) || eqb m 0) h) (eq-eqb p 1 e))

away_bit : (m p a : ℕ) → bit_matches m p a ≡ true → a ≡ 1 → m ≡ 0
unfolding bit_matches
away_bit m p a h e = eqb-true m 0 (then_to (eqb a 1) (eqb m 0) (both_right (not (eqb p 1) || eqb m 1) (not (eqb a 1) || eqb m 0) h) (eq-eqb a 1 e))

bit_from : (m p a : ℕ) → (p ≡ 1 → m ≡ 1) → (a ≡ 1 → m ≡ 0) → bit_matches m p a ≡ true
unfolding bit_matches
bit_from m p a f g =
    ap₂ (λ (x y : Bool). x && y) (then_from (eqb p 1) (eqb m 1) (λ e. eq-eqb m 1 (f (eqb-true p 1 e))))
    (then_from (eqb a 1) (eqb m 0) (λ e. eq-eqb m 0 (g (eqb-true a 1 e))))

below_or_last : (k w : ℕ) → k < suc w → (k < w) ⊎ (k ≡ w)
below_or_last zero zero h = inr refl
below_or_last zero (suc w) h = inl (zero-lt-suc w)
below_or_last (suc k) zero h = absurd (omega arith)
below_or_last (suc k) (suc w) h = ⊎_elim (λ l. inl (omega arith)) (λ e. inr (ap suc e)) (below_or_last k w (le_of_suc-le-suc h))

matches_bit : (w m p a : ℕ) → matches_in w m p a ≡ true → (k : ℕ) → k < w → bit_matches (bit_of m k) (bit_of p k) (bit_of a k) ≡ true
unfolding matches_in
matches_bit zero m p a h k l = absurd (omega arith)
matches_bit (suc w) m p a h k l =
    ⊎_elim (λ s. matches_bit w m p a (both_right (bit_matches (bit_of m w) (bit_of p w) (bit_of a w)) (matches_in w m p a) h) k s)
    (λ e. ap (λ (x : ℕ). bit_matches (bit_of m x) (bit_of p x) (bit_of a x)) e ∙ both_left (bit_matches (bit_of m w) (bit_of p w) (bit_of a w)) (matches_in w m p a) h)
    (below_or_last k w l)

pub matches_to : (w m p a : ℕ) → matches_in w m p a ≡ true → Matches w m p a
matches_to w m p a h =
    record {
      there = λ k l. there_bit (bit_of m k) (bit_of p k) (bit_of a k) (matches_bit w m p a h k l);
      away = λ k l. away_bit (bit_of m k) (bit_of p k) (bit_of a k) (matches_bit w m p a h k l);
    }

pub matches_from : (w m p a : ℕ) → Matches w m p a → matches_in w m p a ≡ true
unfolding matches_in
matches_from zero m p a h = refl
matches_from (suc w) m p a h =
    ap₂ (λ (x y : Bool). x && y) (bit_from (bit_of m w) (bit_of p w) (bit_of a w) (h.there w (lt-suc_self w)) (h.away w (lt-suc_self w)))
    (matches_from w m p a (record { there = λ k l. h.there k (lt_trans l (lt-suc_self w)); away = λ k l. h.away k (lt_trans l (lt-suc_self w)) }))

-- only the ports that a rule could name count
pub matches_within : (v w m p a : ℕ) → w ≤ v → p < 2 ^ w → a < 2 ^ w → matches_in v m p a ≡ matches_in w m p a
matches_within v w m p a h hp ha =
    same_truth (matches_in v m p a) (matches_in w m p a)
    (λ e.
    let s = matches_to v m p a e in
    matches_from w m p a (record { there = λ k l. s.there k (lt_of_lt_of_le l h); away = λ k l. s.away k (lt_of_lt_of_le l h) }))
    (λ e.
    let s = matches_to w m p a e in
    matches_from v m p a
    (record {
      there = λ k l b. s.there k (lt_of_not-le (λ g. omega (arith, bit_past w p k g hp))) b;
      away = λ k l b. s.away k (lt_of_not-le (λ g. omega (arith, bit_past w a k g ha))) b;
    }))

-- ---- the tests on whole masks

two : (x : ℕ) → x < 2 → (x ≡ 0) ⊎ (x ≡ 1)
two zero h = inl refl
two (suc zero) h = inr refl
two (suc (suc x)) h = absurd (omega arith)

pub zero_bit : (k : ℕ) → bit_of 0 k ≡ 0
unfolding bit_of
zero_bit k = ap (λ (x : ℕ). x % 2) (zero-div (2 ^ k))

module _ (w m p a : ℕ) (hm : m < 2 ^ w) (hp : p < 2 ^ w) (ha : a < 2 ^ w) where
  tests_to : bit_and m p ≡ p → bit_and m a ≡ 0 → Matches w m p a
  tests_to e f =
      record {
        there = λ k l h. omega (arith, sym (and_bit m p k) ∙ ap (λ (x : ℕ). bit_of x k) e, bit_lt m k);
        away = λ k l h. omega (arith, sym (and_bit m a k) ∙ ap (λ (x : ℕ). bit_of x k) f ∙ zero_bit k, bit_lt m k);
      }

  within : Matches w m p a → (k : ℕ) → k < w → min (bit_of m k) (bit_of p k) ≡ bit_of p k
  within h k l = go (two (bit_of p k) (bit_lt p k))
    where
      go : (bit_of p k ≡ 0) ⊎ (bit_of p k ≡ 1) → min (bit_of m k) (bit_of p k) ≡ bit_of p k
      go (inl e) = omega arith
      go (inr e) = omega (arith, h.there k l e)

  outside : Matches w m p a → (k : ℕ) → k < w → min (bit_of m k) (bit_of a k) ≡ 0
  outside h k l = go (two (bit_of a k) (bit_lt a k))
    where
      go : (bit_of a k ≡ 0) ⊎ (bit_of a k ≡ 1) → min (bit_of m k) (bit_of a k) ≡ 0
      go (inl e) = omega arith
      go (inr e) = omega (arith, h.away k l e)

  -- and-ing the masks tells whether a rule matches
  pub tests_tell : (eqb (bit_and m p) p && eqb (bit_and m a) 0) ≡ matches_in w m p a
  tests_tell =
      same_truth (eqb (bit_and m p) p && eqb (bit_and m a) 0) (matches_in w m p a)
      (λ h. matches_from w m p a (tests_to (eqb-true (bit_and m p) p (both_left (eqb (bit_and m p) p) (eqb (bit_and m a) 0) h)) (eqb-true (bit_and m a) 0 (both_right (eqb (bit_and m p) p) (eqb (bit_and m a) 0) h))))
      (λ h.
      ap₂ (λ (x y : Bool). x && y)
      (eq-eqb (bit_and m p) p (same_bits w (bit_and m p) p (and_lt w m p hm hp) hp (λ k l. and_bit m p k ∙ within (matches_to w m p a h) k l)))
      (eq-eqb (bit_and m a) 0 (same_bits w (bit_and m a) 0 (and_lt w m a hm ha) (pow_pos w) (λ k l. and_bit m a k ∙ outside (matches_to w m p a h) k l ∙ sym (zero_bit k)))))
