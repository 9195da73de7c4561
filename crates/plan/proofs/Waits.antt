-- The numbers that wait in a table, the latest first. Assumes nothing.
use Prim.Native.Nat.{ℕ, zero, suc, ◌+◌, ◌-◌, ◌≤◌, ◌<◌}
use mathlib.Core.Path.{◌≡◌, refl, ap, ap₂}
use mathlib.Core.List.{List, ◌∷◌}
use native.Mathlib.Numerals.{add-one}
use native.Mathlib.Omega.{arith}
use lib.ListN.{length, get_or, set, drop}
use lib.Seq.{get_or-set_same, get_or-set_other}
use Rattle.plan.specs.Waits.{top}

pub length_top : (s : List ℕ) (n : ℕ) → length (top s n) ≡ n
unfolding top
length_top s zero = refl
length_top s (suc n) = ap suc (length_top s n)

pub top_set : (s : List ℕ) (n m v : ℕ) → n ≤ m → top (set s m v) n ≡ top s n
unfolding top
top_set s zero m v h = refl
top_set s (suc n) m v h = ap₂ ◌∷◌ (get_or-set_other s m n v 0 (omega arith)) (top_set s n m v (omega arith))

pub top_push : (s : List ℕ) (n v : ℕ) → n < length s → top (set s n v) (n + 1) ≡ v ∷ top s n
unfolding top
top_push s n v h = rw (add-one n) (ap₂ ◌∷◌ (get_or-set_same s n v 0 h) (top_set s n n v (omega arith)))

-- the k-th of them, and those after the first k
pub top_at : (s : List ℕ) (n k : ℕ) → k < n → get_or s (n - 1 - k) 0 ≡ get_or (top s n) k 0
unfolding top
top_at s zero k h = absurd (omega arith)
top_at s (suc n) zero h = let e : suc n - 1 - 0 ≡ n = omega arith in rw e
top_at s (suc n) (suc k) h = let e : suc n - 1 - suc k ≡ n - 1 - k = omega arith in rw e (top_at s n k (omega arith))

pub top_past : (s : List ℕ) (n k : ℕ) → n ≤ k → 0 ≡ get_or (top s n) k 0
unfolding top
top_past s zero k h = refl
top_past s (suc n) zero h = absurd (omega arith)
top_past s (suc n) (suc k) h = top_past s n k (omega arith)

pub top_drop : (s : List ℕ) (n k : ℕ) → k ≤ n → drop k (top s n) ≡ top s (n - k)
unfolding top
top_drop s n zero h = let e : n - 0 ≡ n = omega arith in rw e
top_drop s zero (suc k) h = absurd (omega arith)
top_drop s (suc n) (suc k) h = let e : suc n - suc k ≡ n - k = omega arith in rw e (top_drop s n k (omega arith))
