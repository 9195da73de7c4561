-- The machine's count of ones is the sum of the bits. Assumes nothing.
use mathlib.Core.Path.{◌≡◌, refl, sym, ap, ap₂, ◌∙◌}
use Prim.Native.Nat.{ℕ, zero, suc, ◌+◌, ◌/◌, ◌%◌, ◌^◌, ◌≤◌, ◌<◌}
use native.Mathlib.Nat.{le_refl, le_of_lt, zero-lt-suc, mod-lt, mod-eq_of_lt}
use native.Mathlib.Omega.{arith}
use lib.Arith.{lt-one}
use lib.Pow.{pow_pos, split}
use lib.Count.{ones, ones_in, ones_cat}
use Rattle.language.specs.Values.{bit_of, ones_of}
use Rattle.bits.proofs.Laws.{wider_lt}
use Rattle.bits.proofs.Digits.{bit_low, top_lt}

-- only the low m bits count
ones_low : (n m a : ℕ) → n ≤ m → ones_of n (a % 2 ^ m) ≡ ones_of n a
unfolding ones_of
ones_low zero m a h = refl
ones_low (suc n) m a h = ap₂ (λ (x y : ℕ). x + y) (bit_low a m n h) (ones_low n m a (le_of_lt h))

ones_bit : (x : ℕ) → x < 2 → ones x ≡ x
unfolding ones ones_in
ones_bit zero h = refl
ones_bit (suc zero) h = refl
ones_bit (suc (suc x)) h = omega arith

pub ones_are : (w a : ℕ) → a < 2 ^ w → ones a ≡ ones_of w a
unfolding ones_of bit_of
ones_are zero a h = ap ones (lt-one h) ∙ ones_bit 0 (zero-lt-suc 1)
ones_are (suc n) a h =
    let l : a / 2 ^ n < 2 = top_lt n a h in
    ap ones (sym (split a n)) ∙ ones_cat n (a / 2 ^ n) (a % 2 ^ n) (mod-lt a (pow_pos n))
    ∙ ap₂ (λ (x y : ℕ). x + y) (ones_bit (a / 2 ^ n) l ∙ sym (mod-eq_of_lt l))
    (ones_are n (a % 2 ^ n) (mod-lt a (pow_pos n)) ∙ ones_low n n a (le_refl n))

-- a number of w bits has its ones there, whatever width past that is counted over
pub ones_within : (v w a : ℕ) → w ≤ v → a < 2 ^ w → ones_of v a ≡ ones_of w a
ones_within v w a h l = sym (ones_are v a (wider_lt w v h l)) ∙ ones_are w a l
