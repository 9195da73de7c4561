-- Digits: what a number takes, and a number of a line. Assumes nothing.
use mathlib.Core.Path.{◌≡◌, sym}
use mathlib.Core.Bool.{true, false}
use Rattle.std.specs.Prelude.{Some, None}
use Prim.Native.Nat.{ℕ}
use borrow.Author.Tests.{eq-eqb, ne_eqb}
use lib.Dec.{ltb}
use Rattle.language.specs.Words.{digit}
use Rattle.figures.specs.declared.State.{State}
use Rattle.figures.specs.States.{most_of, takes_of, stays_of, line_takes}

-- ---- digits

pub most_mask : (p : ℕ) → p ≡ 0 → 4_294_967_295 ≡ most_of p
unfolding most_of
most_mask p e = sym (simp (most_of, eq-eqb p 0 e))

pub most_value : (p : ℕ) → (p ≡ 0 → ⊥) → 18_446_744_073_709_551_615 ≡ most_of p
unfolding most_of
most_value p h = sym (simp (most_of, ne_eqb p 0 h))

module _ (s : State) (b : ℕ) where
  pub takes_none : digit b ≡ false → false ≡ takes_of s b
  unfolding takes_of
  takes_none e = sym (simp (takes_of, e))

  pub takes_first : digit b ≡ true → s.number ≡ None → true ≡ takes_of s b
  unfolding takes_of
  takes_first e f = sym (simp (takes_of, e, f))

  pub takes_next : (n : ℕ) → digit b ≡ true → s.number ≡ Some n → ltb 0 n ≡ takes_of s b
  unfolding takes_of
  takes_next n e f = sym (simp (takes_of, e, f))

-- ---- in a line

pub line_first : (s : State) (b : ℕ) → takes_of s b ≡ true → stays_of s b ≡ line_takes s b
unfolding line_takes
line_first s b e = sym (simp (line_takes, e))

pub line_none : (s : State) (b : ℕ) → takes_of s b ≡ false → false ≡ line_takes s b
unfolding line_takes
line_none s b e = sym (simp (line_takes, e))
