-- The names of a class, item after item, are those by index. Assumes nothing.
use mathlib.Core.Path.{◌≡◌, sym}
use mathlib.Core.Bool.{Bool, true, false}
use mathlib.Core.List.{List, []}
use Prim.Native.Nat.{ℕ, zero, suc, ◌+◌, ◌-◌, ◌≤◌}
use native.Mathlib.Omega.{arith}
use lib.Dec.{eqb}
use Rattle.placed.specs.Placed.{name_from}
use Rattle.tape.specs.Walk.{op_at, place_at, value_at, hit, add, names_on, between, pick, after}
use Rattle.tape.specs.declared.Class.{Class}

unfoldable pub reset : Bool → List (List ℕ) → List (List ℕ)
reset true ns = []
reset false ns = ns

-- ---- by index

module _ (text t : List ℕ) where
  -- the names of a class after one more item
  pub more : (c : Class) (from i : ℕ) → from ≤ i → between text t c from (suc i) ≡ add (hit c (op_at t i) (value_at t i)) (name_from text (place_at t i)) (between text t c from i)
  unfolding names_on
  more c from i h = let e : suc i - from ≡ suc (i - from) = omega arith in let f : from + (i - from) ≡ i = omega arith in rw (e, f)

  after_within : (o i : ℕ) → after o t i ≤ i
  unfolding after pick
  after_within o zero = omega arith
  after_within o (suc i) = go (eqb (op_at t i) o) (after_within o i)
    where
      go : (b : Bool) → after o t i ≤ i → pick b (suc i) (after o t i) ≤ suc i
      go true h = let k : suc i ≤ suc i = omega arith in k
      go false h = let k : after o t i ≤ suc i = omega arith in k

  pub more_since : (c : Class) (o i : ℕ) → reset (eqb (op_at t i) o) (add (hit c (op_at t i) (value_at t i)) (name_from text (place_at t i)) (between text t c (after o t i) i)) ≡ between text t c (after o t (suc i)) (suc i)
  unfolding after pick reset names_on
  more_since c o i = go (eqb (op_at t i) o)
    where
      go : (b : Bool) → reset b (add (hit c (op_at t i) (value_at t i)) (name_from text (place_at t i)) (between text t c (after o t i) i)) ≡ between text t c (pick b (suc i) (after o t i)) (suc i)
      go true = let e : suc i - suc i ≡ 0 = omega arith in rw e
      go false = sym (more c (after o t i) i (after_within o i))
