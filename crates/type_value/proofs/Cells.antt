-- The values that wait: what a store puts on them, and what a node does to them. Assumes nothing.
use mathlib.Core.Path.{◌≡◌, refl, ap, ap₂, ◌∙◌}
use mathlib.Core.List.{List, [], ◌∷◌}
use Prim.Native.Nat.{ℕ, zero, suc, ◌+◌, ◌-◌, ◌%◌, ◌≤◌, ◌<◌}
use native.Mathlib.Numerals.{add-one}
use native.Mathlib.Omega.{arith}
use lib.ListN.{length, get_or, set}
use lib.Seq.{get_or-set_same, get_or-set_other}
use borrow.Author.Tests.{lt-ltb, le-ltb}
use Rattle.language.specs.declared.Exact.{Exact}
use Rattle.type_value.specs.Walk.{leaf_of, unary_of, binary_of, on_last, on_last_two, turn, waiting}

kept : (l m : List Exact) (n : ℕ) → ((i : ℕ) → i < n → get_or m i (record { up = 0; down = 0; a = 0; b = 0 }) ≡ get_or l i (record { up = 0; down = 0; a = 0; b = 0 })) → waiting m n ≡ waiting l n
unfolding waiting
kept l m zero h = refl
kept l m (suc n) h = ap₂ (λ (x : Exact) (r : List Exact). x ∷ r) (h n (omega arith)) (kept l m n (λ i g. h i (omega arith)))

-- a value taken off
pub taken_off : (l : List Exact) (n : ℕ) → 0 < n → waiting l n ≡ get_or l (n - 1) (record { up = 0; down = 0; a = 0; b = 0 }) ∷ waiting l (n - 1)
unfolding waiting
taken_off l zero h = absurd (omega (arith, h))
taken_off l (suc n) h = let e : suc n - 1 ≡ n = omega arith in rw e

pub none_left : (l : List Exact) (n : ℕ) → n ≡ 0 → waiting l n ≡ []
unfolding waiting
none_left l n e = rw e

-- a value put on
pub put_on : (l : List Exact) (n : ℕ) (x : Exact) → n < length l → waiting (set l n x) (n + 1) ≡ x ∷ waiting l n
unfolding waiting
put_on l n x h =
    ap (λ (k : ℕ). waiting (set l n x) k) (add-one n)
    ∙ ap₂ (λ (y : Exact) (r : List Exact). y ∷ r) (get_or-set_same l n x _ h) (kept l (set l n x) n (λ i g. get_or-set_other l n i x _ (λ e. absurd (omega arith))))

-- ---- what a node does

pub how_many : (l : List Exact) (n : ℕ) → length (waiting l n) ≡ n
unfolding waiting
how_many l zero = refl
how_many l (suc n) = ap suc (how_many l n)

-- a node with its operands at hand does what its kind says
pub turn_leaf : (ws : List ℕ) (k : ℕ) (st : List Exact) → k % 8 < 2 → turn ws k st ≡ leaf_of ws k ∷ st
unfolding turn
turn_leaf ws k st h = rw (lt-ltb (k % 8) 2 h, turn)

pub turn_one : (ws : List ℕ) (k : ℕ) (st : List Exact) → 2 ≤ k % 8 → k % 8 < 5 → turn ws k st ≡ on_last (unary_of (k % 8)) st
unfolding turn
turn_one ws k st lo hi = rw (le-ltb (k % 8) 2 lo, lt-ltb (k % 8) 5 hi, turn)

pub turn_two : (ws : List ℕ) (k : ℕ) (st : List Exact) → 5 ≤ k % 8 → turn ws k st ≡ on_last_two (binary_of (k % 8)) st
unfolding turn
turn_two ws k st lo = rw (le-ltb (k % 8) 2 (omega arith), le-ltb (k % 8) 5 lo, turn)
