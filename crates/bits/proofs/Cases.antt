-- The definitions that go by a test, each at one answer of it. Assumes nothing.
use mathlib.Core.Path.{◌≡◌, ap}
use mathlib.Core.Bool.{Bool, true, false}
use Prim.Native.Nat.{ℕ, ◌-◌, ◌*◌, ◌/◌, ◌%◌, ◌^◌, ◌≤◌, ◌<◌}
use borrow.Author.Tests.{le-leb, lt-leb}
use Rattle.language.specs.Values.{bit_of, number_of, left_of, range_width, range_of}

abbrev pick : ℕ → ℕ → Bool → ℕ
pick x y t = elim t [ true ↦ x | false ↦ y ]

pub left_within : (w a n : ℕ) → n < w → left_of w a n ≡ a * 2 ^ n % 2 ^ w
unfolding left_of
left_within w a n h = ap (pick 0 (a * 2 ^ n % 2 ^ w)) (lt-leb w n h)

pub range_falling : (a i j : ℕ) → j ≤ i → range_of a i j ≡ a / 2 ^ j % 2 ^ range_width i j
unfolding range_of
range_falling a i j h = ap (pick (a / 2 ^ j % 2 ^ range_width i j) (number_of (range_width i j) (λ k. bit_of a (j - k)))) (le-leb j i h)

pub range_rising : (a i j : ℕ) → i < j → range_of a i j ≡ number_of (range_width i j) (λ k. bit_of a (j - k))
unfolding range_of
range_rising a i j h = ap (pick (a / 2 ^ j % 2 ^ range_width i j) (number_of (range_width i j) (λ k. bit_of a (j - k)))) (lt-leb j i h)
