-- Numbers by their bits. Assumes nothing.
use mathlib.Core.Path.{◌≡◌, refl, sym, ap, ap₂, ◌∙◌, subst}
use Prim.Native.Nat.{ℕ, zero, suc, ◌+◌, ◌-◌, ◌*◌, ◌/◌, ◌%◌, ◌^◌, ◌≤◌, ◌<◌, min, max}
use native.Mathlib.Nat.{lt_of_lt_of_le, div-eq_of_lt, mod-eq_of_lt, mod-lt, lt-suc_self, lt_trans, add-suc, pow-suc, add-zero, zero-lt-suc, add_assoc, add-mul, mul_assoc, mul_comm, add_comm, zero-add, zero-mul}
use native.Mathlib.Numerals.{add-one}
use native.Mathlib.Omega.{arith}
use lib.Arith.{lt-one, digits_lt, digits_mod}
use lib.Pow.{pow_pos, pow_mono, split, field, mod-mod-pow, shr_lt, shr-shr, pow-add}
use lib.Bits.{bit_and, bit_or, bit_xor, and_step, or_step, xor_step, and_shr, or_shr, xor_shr, and_lt, or_lt, xor_lt}
use lib.Bits as Bits
use Rattle.language.specs.Values.{bit_of, number_of, and_of, or_of, xor_of}
use Rattle.bits.specs.Reversal.{reversed_of}

pub bit_lt : (a k : ℕ) → bit_of a k < 2
unfolding bit_of
bit_lt a k = mod-lt (a / 2 ^ k) (zero-lt-suc 1)

-- a's bits from n on
pub bit_shr : (a n k : ℕ) → bit_of (a / 2 ^ n) k ≡ bit_of a (n + k)
unfolding bit_of
bit_shr a n k = ap (λ (x : ℕ). x % 2) (shr-shr a n k)

-- a's low n bits
pub bit_low : (a n k : ℕ) → k < n → bit_of (a % 2 ^ n) k ≡ bit_of a k
unfolding bit_of
bit_low a n k h =
    let e : (n - k) + k ≡ n = omega arith in
    let e' : (n - k - 1) + 1 ≡ n - k = omega arith in
    ap (λ (x : ℕ). a % 2 ^ x / 2 ^ k % 2) (sym e) ∙ ap (λ (x : ℕ). x % 2) (field a (n - k) k)
    ∙ ap (λ (x : ℕ). a / 2 ^ k % 2 ^ x % 2) (sym e') ∙ mod-mod-pow (a / 2 ^ k) (n - k - 1) 1

-- past its width a number has only zeros
pub bit_past : (w a k : ℕ) → w ≤ k → a < 2 ^ w → bit_of a k ≡ 0
unfolding bit_of
bit_past w a k h l = ap (λ (x : ℕ). x % 2) (div-eq_of_lt (lt_of_lt_of_le l (pow_mono h)))

-- the highest bit of n + 1
pub top_lt : (n a : ℕ) → a < 2 ^ suc n → a / 2 ^ n < 2
top_lt n a h = shr_lt 1 n (subst (λ (x : ℕ). a < 2 ^ x) (sym (add_comm 1 n ∙ add-one n)) h)

-- two numbers of w bits are one if their bits are
pub by_bits : (w r : ℕ) (f : ℕ → ℕ) → r < 2 ^ w → ((k : ℕ) → k < w → bit_of r k ≡ f k) → r ≡ number_of w f
unfolding number_of bit_of
by_bits zero r f l h = lt-one l
by_bits (suc n) r f l h =
    sym (split r n)
    ∙ ap₂ (λ (x y : ℕ). x * 2 ^ n + y) (sym (mod-eq_of_lt (top_lt n r l)) ∙ h n (lt-suc_self n))
    (by_bits n (r % 2 ^ n) f (mod-lt r (pow_pos n)) (λ k g. bit_low r n k g ∙ h k (lt_trans g (lt-suc_self n))))

pub same_bits : (w a b : ℕ) → a < 2 ^ w → b < 2 ^ w → ((k : ℕ) → k < w → bit_of a k ≡ bit_of b k) → a ≡ b
same_bits w a b ha hb f = by_bits w a (bit_of b) ha f ∙ sym (by_bits w b (bit_of b) hb (λ k h. refl))

pub number_ext : (w : ℕ) (f g : ℕ → ℕ) → ((k : ℕ) → k < w → f k ≡ g k) → number_of w f ≡ number_of w g
unfolding number_of
number_ext zero f g h = refl
number_ext (suc n) f g h =
    ap₂ (λ (x y : ℕ). x * 2 ^ n + y) (h n (lt-suc_self n)) (number_ext n f g (λ k l. h k (lt_trans l (lt-suc_self n))))

pub number_lt : (w : ℕ) (f : ℕ → ℕ) → ((k : ℕ) → f k < 2) → number_of w f < 2 ^ w
unfolding number_of
number_lt zero f h = zero-lt-suc zero
number_lt (suc n) f h =
    let l : number_of n f < 2 ^ n = number_lt n f h in
    rw pow-suc (rw (mul_comm (2 ^ n) 2) (digits_lt (h n) l))

-- a number of m + n bits is its n high ones above its m low ones
pub number_split : (m n : ℕ) (f : ℕ → ℕ) → number_of (m + n) f ≡ number_of n (λ k. f (m + k)) * 2 ^ m + number_of m f
unfolding number_of
number_split m zero f = ap (λ (x : ℕ). number_of x f) (add-zero m) ∙ sym (zero-add (number_of m f)) ∙ ap (λ (x : ℕ). x + number_of m f) (sym (zero-mul (2 ^ m)))
number_split m (suc n) f =
    ap (λ (x : ℕ). number_of x f) (add-suc m n)
    ∙ ap₂ (λ (x y : ℕ). f (m + n) * x + y) (ap (λ (x : ℕ). 2 ^ x) (add_comm m n) ∙ pow-add 2 n m) (number_split m n f)
    ∙ sym (add_assoc (f (m + n) * (2 ^ n * 2 ^ m)) (number_of n (λ k. f (m + k)) * 2 ^ m) (number_of m f))
    ∙ ap (λ (x : ℕ). x + number_of m f)
    (ap (λ (x : ℕ). x + number_of n (λ k. f (m + k)) * 2 ^ m) (sym (mul_assoc (f (m + n)) (2 ^ n) (2 ^ m)))
    ∙ sym (add-mul (f (m + n) * 2 ^ n) (number_of n (λ k. f (m + k))) (2 ^ m)))

-- ---- the machine's operations, bit by bit: one law for the three

module _ (op : ℕ → ℕ → ℕ) (f : ℕ → ℕ → ℕ) (below : (x y : ℕ) → x < 2 → y < 2 → f x y < 2)
    (step : (a b : ℕ) → op a b ≡ op (a / 2) (b / 2) * 2 + f (a % 2) (b % 2))
    (shr : (a b k : ℕ) → op a b / 2 ^ k ≡ op (a / 2 ^ k) (b / 2 ^ k))
    (bound : (k a b : ℕ) → a < 2 ^ k → b < 2 ^ k → op a b < 2 ^ k) where
  pub op_bit : (a b k : ℕ) → bit_of (op a b) k ≡ f (bit_of a k) (bit_of b k)
  unfolding bit_of
  op_bit a b k =
      ap (λ (x : ℕ). x % 2) (shr a b k ∙ step (a / 2 ^ k) (b / 2 ^ k))
      ∙ digits_mod (op (a / 2 ^ k / 2) (b / 2 ^ k / 2)) (below (a / 2 ^ k % 2) (b / 2 ^ k % 2) (mod-lt (a / 2 ^ k) (zero-lt-suc 1)) (mod-lt (b / 2 ^ k) (zero-lt-suc 1)))

  op_bits : (w a b : ℕ) → a < 2 ^ w → b < 2 ^ w → op a b ≡ number_of w (λ k. f (bit_of a k) (bit_of b k))
  op_bits w a b ha hb = by_bits w (op a b) (λ k. f (bit_of a k) (bit_of b k)) (bound w a b ha hb) (λ k h. op_bit a b k)

min_lt : (x y : ℕ) → x < 2 → y < 2 → min x y < 2
min_lt x y hx hy = omega arith

max_lt : (x y : ℕ) → x < 2 → y < 2 → max x y < 2
max_lt x y hx hy = omega arith

abbrev differ : ℕ → ℕ → ℕ
differ x y = (x + y) % 2

bits_differ : (x y : ℕ) → x < 2 → y < 2 → Bits.differ x y ≡ differ x y
bits_differ zero zero hx hy = refl
bits_differ zero (suc zero) hx hy = refl
bits_differ (suc zero) zero hx hy = refl
bits_differ (suc zero) (suc zero) hx hy = refl
bits_differ (suc (suc x)) y hx hy = omega arith
bits_differ zero (suc (suc y)) hx hy = omega arith
bits_differ (suc zero) (suc (suc y)) hx hy = omega arith

differ_lt : (x y : ℕ) → x < 2 → y < 2 → differ x y < 2
differ_lt x y hx hy = mod-lt (x + y) (zero-lt-suc 1)

xor_step' : (a b : ℕ) → bit_xor a b ≡ bit_xor (a / 2) (b / 2) * 2 + differ (a % 2) (b % 2)
xor_step' a b = xor_step a b ∙ ap (λ (x : ℕ). bit_xor (a / 2) (b / 2) * 2 + x) (bits_differ (a % 2) (b % 2) (mod-lt a (zero-lt-suc 1)) (mod-lt b (zero-lt-suc 1)))

pub and_bit : (a b k : ℕ) → bit_of (bit_and a b) k ≡ min (bit_of a k) (bit_of b k)
and_bit = op_bit bit_and min min_lt and_step and_shr and_lt

pub or_bit : (a b k : ℕ) → bit_of (bit_or a b) k ≡ max (bit_of a k) (bit_of b k)
or_bit = op_bit bit_or max max_lt or_step or_shr or_lt

pub and_bits : (w a b : ℕ) → a < 2 ^ w → b < 2 ^ w → bit_and a b ≡ and_of w a b
unfolding and_of
and_bits = op_bits bit_and min min_lt and_step and_shr and_lt

pub or_bits : (w a b : ℕ) → a < 2 ^ w → b < 2 ^ w → bit_or a b ≡ or_of w a b
unfolding or_of
or_bits = op_bits bit_or max max_lt or_step or_shr or_lt

pub xor_bits : (w a b : ℕ) → a < 2 ^ w → b < 2 ^ w → bit_xor a b ≡ xor_of w a b
unfolding xor_of
xor_bits = op_bits bit_xor differ differ_lt xor_step' xor_shr xor_lt

-- ---- reversal

-- the m high bits come below the n low ones
pub reversed_split : (m n a : ℕ) → reversed_of (m + n) a ≡ reversed_of n a * 2 ^ m + reversed_of m (a / 2 ^ n)
unfolding reversed_of
reversed_split m n a =
    number_split m n (λ k. bit_of a (m + n - 1 - k))
    ∙ ap₂ (λ (x y : ℕ). x * 2 ^ m + y)
    (number_ext n (λ k. bit_of a (m + n - 1 - (m + k))) (λ k. bit_of a (n - 1 - k)) (λ k h. ap (bit_of a) (omega arith)))
    (number_ext m (λ k. bit_of a (m + n - 1 - k)) (λ k. bit_of (a / 2 ^ n) (m - 1 - k)) (λ k h. ap (bit_of a) (omega arith) ∙ sym (bit_shr a n (m - 1 - k))))

pub reversed_lt : (w a : ℕ) → reversed_of w a < 2 ^ w
unfolding reversed_of
reversed_lt w a = number_lt w (λ k. bit_of a (w - 1 - k)) (λ k. bit_lt a (w - 1 - k))

-- the bits i up to j of a
pub reversed_part : (a i j : ℕ) → i ≤ j → reversed_of (j - i + 1) (a / 2 ^ i) ≡ number_of (j - i + 1) (λ k. bit_of a (j - k))
unfolding reversed_of
reversed_part a i j h =
    number_ext (j - i + 1) (λ k. bit_of (a / 2 ^ i) (j - i + 1 - 1 - k)) (λ k. bit_of a (j - k))
    (λ k l. bit_shr a i (j - i + 1 - 1 - k) ∙ ap (bit_of a) (omega arith))
