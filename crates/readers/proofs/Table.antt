-- A rule of a table, proved at all of its entries by one test that antt computes, one entry after the other.
-- Assumes nothing.
use mathlib.Core.Path.{◌≡◌, refl, ◌∙◌, subst, sym}
use mathlib.Core.Bool.{Bool, true, false}
use mathlib.Core.List.{List, [], ◌∷◌}
use Prim.Native.Nat.{ℕ, zero, suc, ◌+◌, ◌-◌, ◌≤◌, ◌<◌}
use native.Mathlib.Nat.{add-zero, zero-add, add-suc, suc-add, le_of_suc-le-suc, not-suc-le-zero}
use lib.Dec.{T, eqb, leb, ltb, eqb→eq, leb→le}
use borrow.Author.Tests.{ltb-true, ltb-false}
use Rattle.readers.specs.Marks.{figure_of}
use lib.ListN.{length, get_or}

abbrev pub both : Bool → Bool → Bool
both true b = b
both false b = false

both_left : (a b : Bool) → T (both a b) → T a
both_left true b t = tt
both_left false b t = t

both_right : (a b : Bool) → T (both a b) → T b
both_right true b t = t
both_right false b t = absurd t

-- the test f passes at each entry of the list and its place, counted from i
abbrev pub every : (ℕ → ℕ → Bool) → ℕ → List ℕ → Bool
every f i [] = true
every f i (x ∷ xs) = both (f i x) (every f (suc i) xs)

from : (f : ℕ → ℕ → Bool) (xs : List ℕ) (i : ℕ) → T (every f i xs) → (k : ℕ) → k < length xs → T (f (i + k) (get_or xs k 0))
from f [] i t k h = absurd (not-suc-le-zero h)
from f (x ∷ xs) i t zero h = subst (λ (m : ℕ). T (f m x)) (sym (add-zero i)) (both_left (f i x) (every f (suc i) xs) t)
from f (x ∷ xs) i t (suc k) h =
    subst (λ (m : ℕ). T (f m (get_or xs k 0))) (suc-add i k ∙ sym (add-suc i k))
    (from f xs (suc i) (both_right (f i x) (every f (suc i) xs) t) k (le_of_suc-le-suc h))

pub at : (f : ℕ → ℕ → Bool) (xs : List ℕ) → T (every f 0 xs) → (k : ℕ) → k < length xs → T (f k (get_or xs k 0))
at f xs t k h = subst (λ (m : ℕ). T (f m (get_or xs k 0))) (zero-add k) (from f xs 0 t k h)

-- what a table has for a kind, where it is a law at each entry, and past it
pub figure_law : (table : List ℕ) (base past : ℕ) (law : ℕ → ℕ) → 65 ≡ length table → T (every (λ k x. eqb (x - base) (law k)) 0 table) → ((k : ℕ) → 65 ≤ k → past ≡ law k) → (k : ℕ) → figure_of table base past k ≡ law k
figure_law table base past law size t beyond k = go (ltb k 65) refl
  where
    go : (b : Bool) → ltb k 65 ≡ b → elim b [ true ↦ get_or table k 0 - base | false ↦ past ] ≡ law k
    go true q = eqb→eq _ _ (at (λ k x. eqb (x - base) (law k)) table t k (subst (λ (n : ℕ). k < n) size (ltb-true k 65 q)))
    go false q = beyond k (ltb-false k 65 q)

-- each entry is at least so much
pub at_least : (base : ℕ) (table : List ℕ) → T (every (λ k x. leb base x) 0 table) → (k : ℕ) → k < length table → base ≤ get_or table k 0
at_least base table t k h = leb→le base _ (at (λ k x. leb base x) table t k h)
