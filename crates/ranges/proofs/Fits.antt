-- Every operator's value fits its width, from operands that fit theirs. Assumes nothing.
use mathlib.Core.Bool.{Bool, true, false}
use Prim.Native.Nat.{ℕ, zero, suc, ◌+◌, ◌-◌, ◌*◌, ◌/◌, ◌%◌, ◌^◌, ◌≤◌, ◌<◌, min, max}
use native.Mathlib.Nat.{lt_of_le_of_lt, mod-lt, mod-le, div-le_self, zero-lt-suc, suc-mul}
use native.Mathlib.Omega.{arith}
use lib.Dec.{eqb, leb, lit<}
use lib.Pow.{pow_pos, ones_lt, ones_sub-lt, shr_le}
use Rattle.language.specs.Types.{fewest}
use Rattle.language.specs.Values.{bit_of, number_of, ones_of, one_bit, truth, complement, plain_width, binary_width, add_of, subtract_of, divide_of, remainder_of, left_of, right_of, and_of, or_of, xor_of, binary_value, unary_width, unary_value, beside_of, copies_of, range_width, range_of, chosen}
use Rattle.language.specs.declared.Unary.{Unary}
use Rattle.language.specs.declared.Unary.TheVariants.{Invert, Plus, Not, All, NotAll, Any, NotAny, Odd, NotOdd}
use Rattle.language.specs.declared.Binary.{Binary}
use Rattle.language.specs.declared.Binary.TheVariants.{Multiply, Divide, Remainder, Add, Subtract, Left, Right, Less, AtMost, Greater, AtLeast, Equal, Unequal, And, NotAnd, Xor, NotXor, Or, NotOr, Both, Either}
use Rattle.bits.proofs.Laws.{product, above_lt, wider_lt}
use Rattle.bits.proofs.Digits.{bit_lt, number_lt}
use Rattle.language.proofs.Fewest.{fewest_holds, fewest_least}

either_lt : (t : Bool) (x y k : ℕ) → x < k → y < k → elim t [ true ↦ x | false ↦ y ] < k
either_lt true x y k h l = h
either_lt false x y k h l = l

pub one_bit_lt : (t : Bool) → one_bit t < 2
unfolding one_bit
one_bit_lt true = lit< tt
one_bit_lt false = lit< tt

pub and_fits : (w a b : ℕ) → and_of w a b < 2 ^ w
unfolding and_of
and_fits w a b = number_lt w (λ k. min (bit_of a k) (bit_of b k)) (λ k. omega (arith, bit_lt a k, bit_lt b k))

pub or_fits : (w a b : ℕ) → or_of w a b < 2 ^ w
unfolding or_of
or_fits w a b = number_lt w (λ k. max (bit_of a k) (bit_of b k)) (λ k. omega (arith, bit_lt a k, bit_lt b k))

pub xor_fits : (w a b : ℕ) → xor_of w a b < 2 ^ w
unfolding xor_of
xor_fits w a b = number_lt w (λ k. (bit_of a k + bit_of b k) % 2) (λ k. mod-lt (bit_of a k + bit_of b k) (zero-lt-suc 1))

pub binary_fits : (op : Binary) (m n a b : ℕ) → a < 2 ^ m → b < 2 ^ n → binary_value op m n a b < 2 ^ binary_width op m n
unfolding binary_value binary_width divide_of remainder_of add_of subtract_of left_of right_of complement
binary_fits Multiply m n a b h l = product m n h l
binary_fits Divide m n a b h l = either_lt (eqb b 0) (2 ^ m - 1) (a / b) (2 ^ m) (ones_lt m) (lt_of_le_of_lt (div-le_self a b) h)
binary_fits Remainder m n a b h l = either_lt (eqb b 0) a (a % b) (2 ^ m) h (lt_of_le_of_lt (mod-le a b) h)
binary_fits Add m n a b h l = mod-lt (a + b) (pow_pos (max m n))
binary_fits Subtract m n a b h l = mod-lt (2 ^ max m n + a - b) (pow_pos (max m n))
binary_fits Left m n a b h l = either_lt (leb m b) 0 (a * 2 ^ b % 2 ^ m) (2 ^ m) (pow_pos m) (mod-lt (a * 2 ^ b) (pow_pos m))
binary_fits Right m n a b h l = either_lt (leb m b) 0 (a / 2 ^ b) (2 ^ m) (pow_pos m) (lt_of_le_of_lt (shr_le a b) h)
binary_fits Less m n a b h l = one_bit_lt _
binary_fits AtMost m n a b h l = one_bit_lt _
binary_fits Greater m n a b h l = one_bit_lt _
binary_fits AtLeast m n a b h l = one_bit_lt _
binary_fits Equal m n a b h l = one_bit_lt _
binary_fits Unequal m n a b h l = one_bit_lt _
binary_fits And m n a b h l = and_fits (max m n) a b
binary_fits NotAnd m n a b h l = ones_sub-lt (max m n) (and_of (max m n) a b)
binary_fits Xor m n a b h l = xor_fits (max m n) a b
binary_fits NotXor m n a b h l = ones_sub-lt (max m n) (xor_of (max m n) a b)
binary_fits Or m n a b h l = or_fits (max m n) a b
binary_fits NotOr m n a b h l = ones_sub-lt (max m n) (or_of (max m n) a b)
binary_fits Both m n a b h l = one_bit_lt _
binary_fits Either m n a b h l = one_bit_lt _

pub unary_fits : (op : Unary) (w a : ℕ) → a < 2 ^ w → unary_value op w a < 2 ^ unary_width op w
unfolding unary_value unary_width complement
unary_fits Invert w a h = ones_sub-lt w a
unary_fits Plus w a h = h
unary_fits Not w a h = one_bit_lt _
unary_fits All w a h = one_bit_lt _
unary_fits NotAll w a h = one_bit_lt _
unary_fits Any w a h = one_bit_lt _
unary_fits NotAny w a h = one_bit_lt _
unary_fits Odd w a h = mod-lt (ones_of w a) (zero-lt-suc 1)
unary_fits NotOdd w a h = let l : 1 - ones_of w a % 2 < 2 = omega arith in l

-- an operator before an operand keeps to any width that has a bit
pub unary_within : (op : Unary) (v w : ℕ) → 1 ≤ v → w ≤ v → unary_width op w ≤ v
unfolding unary_width
unary_within Invert v w h l = l
unary_within Plus v w h l = l
unary_within Not v w h l = h
unary_within All v w h l = h
unary_within NotAll v w h l = h
unary_within Any v w h l = h
unary_within NotAny v w h l = h
unary_within Odd v w h l = h
unary_within NotOdd v w h l = h

pub beside_fits : (m n a b : ℕ) → a < 2 ^ m → b < 2 ^ n → beside_of n a b < 2 ^ (m + n)
unfolding beside_of
beside_fits = above_lt

-- what `beside` requires, at v = 64
pub beside_within : (v m n a b : ℕ) → m + n ≤ v → a < 2 ^ m → b < 2 ^ n → beside_of n a b < 2 ^ v
beside_within v m n a b h ha hb = wider_lt (m + n) v h (beside_fits m n a b ha hb)

pub copies_fits : (k w a : ℕ) → a < 2 ^ w → copies_of k w a < 2 ^ (k * w)
unfolding copies_of
copies_fits zero w a h = pow_pos (0 * w)
copies_fits (suc k) w a h = rw suc-mul (above_lt (k * w) w (copies_of k w a) a (copies_fits k w a h) h)

pub range_fits : (a i j : ℕ) → range_of a i j < 2 ^ range_width i j
unfolding range_of
range_fits a i j =
    either_lt (leb j i) (a / 2 ^ j % 2 ^ range_width i j) (number_of (range_width i j) (λ k. bit_of a (j - k))) (2 ^ range_width i j)
    (mod-lt (a / 2 ^ j) (pow_pos (range_width i j))) (number_lt (range_width i j) (λ k. bit_of a (j - k)) (λ k. bit_lt a (j - k)))

-- a range of places below v has at most v bits
pub range_within : (v i j : ℕ) → i < v → j < v → range_width i j ≤ v
unfolding range_width
range_within v i j h l = omega arith

pub chosen_fits : (w c a b : ℕ) → a < 2 ^ w → b < 2 ^ w → chosen c a b < 2 ^ w
unfolding chosen
chosen_fits w c a b h l = either_lt (truth c) a b (2 ^ w) h l

-- "Unsized constant: the fewest bits that hold it, at least 1."
pub plain_fits : (n : ℕ) → n < 2 ^ plain_width n
unfolding plain_width
plain_fits n = wider_lt (fewest n) (max 1 (fewest n)) (omega arith) (fewest_holds n)

pub plain_least : (n k : ℕ) → 1 ≤ k → n < 2 ^ k → plain_width n ≤ k
unfolding plain_width
plain_least n k h l = omega (arith, fewest_least n k l)
