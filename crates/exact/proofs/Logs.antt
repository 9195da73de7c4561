-- The logs of ratios rounded down and up, by the fewest bits that hold a number. Assumes nothing.
use mathlib.Core.Path.{◌≡◌, sym, ap, ◌∙◌, subst}
use mathlib.Core.Logic.{◌↔◌}
use Prim.Native.Nat.{ℕ, zero, suc, ◌+◌, ◌-◌, ◌*◌, ◌/◌, ◌^◌, ◌≤◌, ◌<◌}
use native.Mathlib.Nat.{le_trans, lt_of_lt_of_le, lt_of_le_of_lt, le_of_suc-le-suc, add-zero, add-suc, mul_assoc, one-mul, mul-le-mul_left, mul-le-mul_right, mul-lt-mul_of_pos_left, div-lt_iff_lt-mul, le-div_iff_mul-le, div-le_self, div-eq_of_lt, sub-le, zero-lt-suc, pow-suc, not-le_of_lt, lt_of_not-le, pos_of_ne-zero}
use native.Mathlib.Decide.{dec_le, ℕ_discrete}
use native.Mathlib.Omega.{arith}
use lib.Pow.{pow_pos, pow_mono, pow-add}
use lib.Count.{count_leading_zeros, leading_top, leading_of_zero}
use Rattle.language.specs.Types.{fewest, log_down, log_up}
use Rattle.language.proofs.Fewest.{fewest_none, fewest_is}

-- a word's leading zeros are what is left of it
pub fewest_bits : (k n : ℕ) → n < 2 ^ k → count_leading_zeros k n + fewest n ≡ k
fewest_bits k n h = go (ℕ_discrete n 0)
  where
    go : Dec (n ≡ 0) → count_leading_zeros k n + fewest n ≡ k
    go (yes e) = ap (λ (m : ℕ). count_leading_zeros k m + fewest m) e ∙ ap (λ (m : ℕ). count_leading_zeros k 0 + m) fewest_none ∙ add-zero (count_leading_zeros k 0) ∙ leading_of_zero k
    go (no d) =
        let t = leading_top k n (pos_of_ne-zero d) h in
        ap (λ (m : ℕ). count_leading_zeros k n + m) (fewest_is n t.0 t.2 t.3) ∙ t.1

pub lt_pow : (n : ℕ) → n < 2 ^ n
lt_pow zero = zero-lt-suc 0
lt_pow (suc n) = rw pow-suc (omega (arith, lt_pow n))

-- ---- the logs of a ratio

pub down_is : (a b t : ℕ) → 0 < b → 2 ^ t * b ≤ a → a < 2 ^ suc t * b → log_down a b ≡ t
unfolding log_down
down_is a b t pos lo hi = omega (arith, fewest_is (a / b) t ((le-div_iff_mul-le pos).1 lo) ((div-lt_iff_lt-mul pos).1 hi))

pub down_zero : (a b : ℕ) → a < b → log_down a b ≡ 0
unfolding log_down
down_zero a b h = ap (λ (n : ℕ). fewest n - 1) (div-eq_of_lt h) ∙ ap (λ (n : ℕ). n - 1) fewest_none

pub up_is : (a b t : ℕ) → 0 < b → 2 ^ t * b < a → a ≤ 2 ^ suc t * b → log_up a b ≡ suc t
unfolding log_up
up_is a b t pos lo hi = fewest_is ((a - 1) / b) t ((le-div_iff_mul-le pos).1 (omega arith)) ((div-lt_iff_lt-mul pos).1 (omega arith))

pub up_zero : (a b : ℕ) → 0 < b → a ≤ b → log_up a b ≡ 0
unfolding log_up
up_zero a b pos h = let l : a - 1 < b = omega arith in ap fewest (div-eq_of_lt l) ∙ fewest_none

-- ---- 2 ^ m b against 2 ^ n a goes by the logs of a / b, rounded

lift : (m j a : ℕ) → 2 ^ (m + j) * a ≡ 2 ^ m * (2 ^ j * a)
lift m j a = ap (λ (n : ℕ). n * a) (pow-add 2 m j) ∙ mul_assoc (2 ^ m) (2 ^ j) a

core_down : (m n a b j : ℕ) → 2 ^ j * b ≤ a → a < 2 ^ suc j * b → (2 ^ m * b ≤ 2 ^ n * a) ↔ (m ≤ n + j)
core_down m n a b j lo hi = (
  λ l. le_of_not (λ g.
      not-le_of_lt (lt_of_lt_of_le (subst (λ (x : ℕ). 2 ^ n * a < x) (sym (lift n (suc j) b)) (mul-lt-mul_of_pos_left hi (pow_pos n))) (mul-le-mul_right b (pow_mono (step g)))) l),
  λ h. le_trans (mul-le-mul_right b (pow_mono h)) (subst (λ (x : ℕ). x ≤ 2 ^ n * a) (sym (lift n j b)) (mul-le-mul_left (2 ^ n) lo)),
)
  where
    le_of_not : (n + j < m → ⊥) → m ≤ n + j
    le_of_not f = le_of_suc-le-suc (lt_of_not-le (λ g. f g))

    step : n + j < m → n + suc j ≤ m
    step g = omega arith

core_up : (m n a b j : ℕ) → 2 ^ j * a < b → b ≤ 2 ^ suc j * a → (2 ^ m * b ≤ 2 ^ n * a) ↔ (m + suc j ≤ n)
core_up m n a b j lo hi = (
  λ l. lt_of_not (λ g.
      not-le_of_lt (lt_of_le_of_lt (mul-le-mul_right a (pow_mono g)) (subst (λ (x : ℕ). x < 2 ^ m * b) (sym (lift m j a)) (mul-lt-mul_of_pos_left lo (pow_pos m)))) l),
  λ h. le_trans (mul-le-mul_left (2 ^ m) hi) (subst (λ (x : ℕ). x ≤ 2 ^ n * a) (lift m (suc j) a) (mul-le-mul_right a (pow_mono h))),
)
  where
    lt_of_not : (n ≤ m + j → ⊥) → m + suc j ≤ n
    lt_of_not f = rw add-suc (lt_of_not-le f)

pub core : (m n a b : ℕ) → 0 < a → 0 < b → (2 ^ m * b ≤ 2 ^ n * a) ↔ (m + log_up b a ≤ n + log_down a b)
core m n a b pa pb = go (dec_le b a)
  where
    go : Dec (b ≤ a) → (2 ^ m * b ≤ 2 ^ n * a) ↔ (m + log_up b a ≤ n + log_down a b)
    go (yes h) =
        let t = leading_top a (a / b) ((le-div_iff_mul-le pb).1 (omega (arith, one-mul b))) (lt_of_le_of_lt (div-le_self a b) (lt_pow a)) in
        let lo : 2 ^ t.0 * b ≤ a = (le-div_iff_mul-le pb).0 t.2 in
        let hi : a < 2 ^ suc t.0 * b = (div-lt_iff_lt-mul pb).0 t.3 in
        let ed : log_down a b ≡ t.0 = down_is a b t.0 pb lo hi in
        let eu : log_up b a ≡ 0 = up_zero b a pa h in
        (λ l. omega (arith, (core_down m n a b t.0 lo hi).0 l, ed, eu), λ g. (core_down m n a b t.0 lo hi).1 (omega arith))
    go (no k) =
        let h : a < b = lt_of_not-le k in
        let t = leading_top b ((b - 1) / a) ((le-div_iff_mul-le pa).1 (omega (arith, one-mul a))) (lt_of_le_of_lt (div-le_self (b - 1) a) (lt_of_le_of_lt (sub-le b 1) (lt_pow b))) in
        let lo' : 2 ^ t.0 * a ≤ b - 1 = (le-div_iff_mul-le pa).0 t.2 in
        let hi' : b - 1 < 2 ^ suc t.0 * a = (div-lt_iff_lt-mul pa).0 t.3 in
        let lo : 2 ^ t.0 * a < b = omega arith in
        let hi : b ≤ 2 ^ suc t.0 * a = omega arith in
        let eu : log_up b a ≡ suc t.0 = up_is b a t.0 pa lo hi in
        let ed : log_down a b ≡ 0 = down_zero a b h in
        (λ l. omega (arith, (core_up m n a b t.0 lo hi).0 l, ed, eu), λ g. (core_up m n a b t.0 lo hi).1 (omega arith))

-- ---- how large they get

fewest_le : (k n : ℕ) → n < 2 ^ k → fewest n ≤ k
fewest_le k n h = omega (arith, fewest_bits k n h)

pub down_le : (k a b : ℕ) → a < 2 ^ k → log_down a b ≤ k
unfolding log_down
down_le k a b h = omega (arith, fewest_le k (a / b) (lt_of_le_of_lt (div-le_self a b) h))

pub up_le : (k a b : ℕ) → a < 2 ^ k → log_up a b ≤ k
unfolding log_up
up_le k a b h = fewest_le k ((a - 1) / b) (lt_of_le_of_lt (div-le_self (a - 1) b) (lt_of_le_of_lt (sub-le a 1) h))

-- ---- as the code has them

-- the power of two that a quotient holds
pub down_log : (a b t : ℕ) → 0 < b → 2 ^ t ≤ a / b → a / b < 2 * 2 ^ t → t ≡ log_down a b
down_log a b t pos lo hi = sym (down_is a b t pos ((le-div_iff_mul-le pos).0 lo) ((div-lt_iff_lt-mul pos).0 (rw pow-suc (omega arith))))

pub up_bits : (k a b : ℕ) → a < 2 ^ k → count_leading_zeros k ((a - 1) / b) + log_up a b ≡ k
unfolding log_up
up_bits k a b l = fewest_bits k ((a - 1) / b) (lt_of_le_of_lt (div-le_self (a - 1) b) (lt_of_le_of_lt (sub-le a 1) l))
