-- Facts about widths, each over the width; v is a width that w lies within. Assumes nothing.
use mathlib.Core.Path.{◌≡◌, sym, ap, ◌∙◌, subst}
use Prim.Native.Nat.{ℕ, zero, suc, ◌+◌, ◌-◌, ◌*◌, ◌%◌, ◌^◌, ◌≤◌, ◌<◌}
use native.Mathlib.Nat.{lt_of_lt_of_le, lt_of_le_of_lt, le_of_lt, sub-zero, sub-add_cancel, one-mul, mod-eq_of_lt, mod-add-mod, add-mod_right, mul-le-mul_left, mul-lt-mul_of_pos_right, zero-mul, zero-add, suc-mul}
use native.Mathlib.Omega.{arith}
use lib.Arith.{digits_lt}
use lib.Pow.{pow_pos, pow_mono, pow-lt, pow-add, mod-mod-pow, not_mod}
use lib.Bits.{bit_and, and_mask}

-- one shifted by less than the width
pub one_shl : (v w : ℕ) → w < v → (1 * 2 ^ w) % 2 ^ v ≡ 2 ^ w
one_shl v w h = rw one-mul (mod-eq_of_lt (pow-lt h))

pub mask_some : (v w : ℕ) → w < v → 1 ≤ (1 * 2 ^ w) % 2 ^ v
mask_some v w h = rw (one_shl v w h) (pow_pos w)

pub masked : (x v w : ℕ) → w < v → bit_and x ((1 * 2 ^ w) % 2 ^ v - 1) ≡ x % 2 ^ w
masked x v w h = ap (λ (m : ℕ). bit_and x (m - 1)) (one_shl v w h) ∙ and_mask x w

-- a number of v bits is of any more
pub wider_lt : {x : ℕ} (v w : ℕ) → v ≤ w → x < 2 ^ v → x < 2 ^ w
wider_lt v w h l = lt_of_lt_of_le l (pow_mono h)

-- a width past the number's own changes nothing
pub whole : {x : ℕ} (v w : ℕ) → v ≤ w → x < 2 ^ v → x ≡ x % 2 ^ w
whole v w h l = sym (mod-eq_of_lt (wider_lt v w h l))

-- what wraps at v, and then at a w within it, wraps at w
pub again : (x v w : ℕ) → w ≤ v → x % 2 ^ v % 2 ^ w ≡ x % 2 ^ w
again x v w h = subst (λ (n : ℕ). x % 2 ^ n % 2 ^ w ≡ x % 2 ^ w) (sub-add_cancel h) (mod-mod-pow x (v - w) w)

-- a difference that wraps at v, cut to w
pub minus : (r a b v w : ℕ) → w ≤ v → b < 2 ^ w → (r + b) % 2 ^ v ≡ a → r % 2 ^ w ≡ (2 ^ w + a - b) % 2 ^ w
minus r a b v w h l e =
    let s : (r + b) % 2 ^ w ≡ a % 2 ^ w = sym (again (r + b) v w h) ∙ ap (λ (x : ℕ). x % 2 ^ w) e in
    let p : 2 ^ w + a - b ≡ a + (2 ^ w - b) = omega arith in
    let q : r + b + (2 ^ w - b) ≡ r + 2 ^ w = omega arith in
    sym (ap (λ (x : ℕ). x % 2 ^ w) p ∙ sym (mod-add-mod a (2 ^ w) (2 ^ w - b)) ∙ ap (λ (x : ℕ). (x + (2 ^ w - b)) % 2 ^ w) (sym s)
    ∙ mod-add-mod (r + b) (2 ^ w) (2 ^ w - b) ∙ ap (λ (x : ℕ). x % 2 ^ w) q ∙ add-mod_right r (2 ^ w))

-- a product of m and n bits has m + n
pub product : (m n : ℕ) {a b : ℕ} → a < 2 ^ m → b < 2 ^ n → a * b < 2 ^ (m + n)
product m n {a} {b} ha hb = rw pow-add (lt_of_le_of_lt (mul-le-mul_left a (le_of_lt hb)) (mul-lt-mul_of_pos_right ha (pow_pos n)))

-- all ones of v bits, and all bits the other way, cut to w
pub ones_cut : (v w : ℕ) → w ≤ v → (2 ^ v - 1) % 2 ^ w ≡ 2 ^ w - 1
ones_cut v w h =
    subst (λ (n : ℕ). (2 ^ n - 1) % 2 ^ w ≡ 2 ^ w - 1) (sub-add_cancel h) (simp sub-zero at (not_mod {a = zero} (v - w) w (pow_pos w)))

pub complement_cut : (v w a : ℕ) → w ≤ v → a < 2 ^ w → (2 ^ v - 1 - a) % 2 ^ w ≡ 2 ^ w - 1 - a
complement_cut v w a h l = subst (λ (n : ℕ). (2 ^ n - 1 - a) % 2 ^ w ≡ 2 ^ w - 1 - a) (sub-add_cancel h) (not_mod {a = a} (v - w) w l)

-- a number above another of n bits, where both together have v
pub above : (n v a b : ℕ) → a * 2 ^ n + b < 2 ^ v → (a * 2 ^ n) % 2 ^ v ≡ a * 2 ^ n
above n v a b h = let l : a * 2 ^ n < 2 ^ v = omega arith in mod-eq_of_lt l

pub above_lt : (m n a b : ℕ) → a < 2 ^ m → b < 2 ^ n → a * 2 ^ n + b < 2 ^ (m + n)
above_lt m n a b ha hb = rw pow-add (digits_lt ha hb)

-- nothing stands above all the bits there are
pub alone : (n v a b : ℕ) → v ≤ n → a * 2 ^ n + b < 2 ^ v → b ≡ a * 2 ^ n + b
alone n v zero b h l = sym (ap (λ (x : ℕ). x + b) (zero-mul (2 ^ n)) ∙ zero-add b)
alone n v (suc a) b h l =
    let p : 2 ^ v ≤ 2 ^ n = pow_mono h in
    absurd (omega (arith, suc-mul a (2 ^ n)))
