-- One copy more, one bit more of a reversal, and the two directions of a range. Assumes nothing.
use mathlib.Core.Path.{◌≡◌, sym, ap, ap₂, ◌∙◌, subst}
use Prim.Native.Nat.{ℕ, ◌+◌, ◌-◌, ◌*◌, ◌/◌, ◌%◌, ◌^◌, ◌≤◌, ◌<◌}
use native.Mathlib.Nat.{add_comm, mod-lt, zero-lt-suc, div-one, mul-one, add-zero, mul-le-mul_right, le_trans}
use native.Mathlib.Numerals.{add-one}
use native.Mathlib.Omega.{arith}
use Rattle.language.specs.Values.{bit_of, number_of, beside_of, copies_of, range_width, range_of}
use Rattle.bits.specs.Reversal.{reversed_of}
use Rattle.bits.proofs.Laws.{wider_lt}
use Rattle.bits.proofs.Cases.{range_falling, range_rising}
use Rattle.bits.proofs.Digits.{reversed_split, reversed_lt, reversed_part}
use Rattle.ranges.proofs.Fits.{beside_within, copies_fits}

pub copies_more : (i w a r : ℕ) → r ≡ copies_of i w a → beside_of w r a ≡ copies_of (i + 1) w a
unfolding copies_of beside_of
copies_more i w a r e = rw add-one (ap (λ (x : ℕ). x * 2 ^ w + a) e)

pub copies_room : (v i k w a r : ℕ) → i < k → r ≡ copies_of i w a → a < 2 ^ w → k * w ≤ v → beside_of w r a < 2 ^ v
copies_room v i k w a r l e h f =
    let g : i + 1 ≤ k = omega arith in
    subst (λ (x : ℕ). x < 2 ^ v) (sym (copies_more i w a r e)) (wider_lt ((i + 1) * w) v (le_trans (mul-le-mul_right w g) f) (copies_fits (i + 1) w a h))

reversed_one : (y : ℕ) → reversed_of 1 y ≡ y % 2
unfolding reversed_of number_of bit_of
reversed_one y = simp (div-one, mul-one, add-zero)

pub reversed_more : (k a r x : ℕ) → r ≡ reversed_of k a → x ≡ a / 2 ^ k → beside_of 1 r (x % 2) ≡ reversed_of (k + 1) a
unfolding beside_of
reversed_more k a r x e f =
    ap₂ (λ (s t : ℕ). s * 2 ^ 1 + t) e (ap (λ (y : ℕ). y % 2) f ∙ sym (reversed_one (a / 2 ^ k))) ∙ sym (reversed_split 1 k a)
    ∙ ap (λ (n : ℕ). reversed_of n a) (add_comm 1 k)

pub reversed_room : (v k a r x : ℕ) → k + 1 ≤ v → r ≡ reversed_of k a → beside_of 1 r (x % 2) < 2 ^ v
reversed_room v k a r x h e =
    beside_within v k 1 r (x % 2) h (subst (λ (y : ℕ). y < 2 ^ k) (sym e) (reversed_lt k a)) (mod-lt x (zero-lt-suc 1))

width_up : (i j : ℕ) → i < j → range_width i j ≡ j - i + 1
unfolding range_width
width_up i j h = omega arith

-- bits i down to j
pub range_down : (a i j w r : ℕ) → j ≤ i → w ≡ range_width i j → r ≡ a / 2 ^ j % 2 ^ w → r ≡ range_of a i j
range_down a i j w r h e f = f ∙ ap (λ (x : ℕ). a / 2 ^ j % 2 ^ x) e ∙ sym (range_falling a i j h)

-- bits i up to j
pub range_up : (a i j w r : ℕ) → i < j → w ≡ range_width i j → r ≡ reversed_of w (a / 2 ^ i) → r ≡ range_of a i j
range_up a i j w r h e f =
    let g : i ≤ j = omega arith in
    let u : range_width i j ≡ j - i + 1 = width_up i j h in
    f ∙ ap (λ (x : ℕ). reversed_of x (a / 2 ^ i)) (e ∙ u) ∙ reversed_part a i j g ∙ ap (λ (x : ℕ). number_of x (λ k. bit_of a (j - k))) (sym u) ∙ sym (range_rising a i j h)
