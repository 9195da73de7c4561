-- The sum of a list, number by number. Assumes nothing.
use mathlib.Core.Path.{◌≡◌, refl, ap, ◌∙◌}
use mathlib.Core.List.{List, [], ◌∷◌}
use Prim.Native.Nat.{ℕ, zero, suc, ◌+◌, ◌≤◌, ◌<◌}
use native.Mathlib.Omega.{arith}
use lib.ListN.{length, drop, get_or}
use lib.Seq.{drop-cons}
use Rattle.plan_answer.specs.Answered.{sums}

pub sums_next : (l : List ℕ) (i s all : ℕ) → i < length l → s + sums (drop i l) ≡ all → s + get_or l i 0 + sums (drop (i + 1) l) ≡ all
unfolding sums
sums_next l i s all h e = let k : sums (drop i l) ≡ get_or l i 0 + sums (drop (i + 1) l) = ap sums (drop-cons l i 0 h) ∙ ap (λ (n : ℕ). get_or l i 0 + sums (drop n l)) (one i) in omega arith
  where
    one : (n : ℕ) → suc n ≡ n + 1
    one n = omega arith

pub sums_end : (l : List ℕ) (i s all : ℕ) → length l ≤ i → s + sums (drop i l) ≡ all → s ≡ all
unfolding sums
sums_end l i s all h e = let k : sums (drop i l) ≡ 0 = ap sums (past l i h) in omega arith
  where
    past : (m : List ℕ) (n : ℕ) → length m ≤ n → drop n m ≡ []
    past [] zero q = refl
    past [] (suc n) q = refl
    past (x ∷ m) zero q = absurd (omega arith)
    past (x ∷ m) (suc n) q = past m n (omega arith)
