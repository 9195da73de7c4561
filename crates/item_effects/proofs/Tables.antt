-- The tables of the walk: what waits, what an item stores. Assumes nothing.
use mathlib.Core.Path.{◌≡◌, ap, ◌∙◌}
use mathlib.Core.Bool.{Bool, true, false}
use mathlib.Core.List.{List, ◌∷◌}
use Prim.Native.Nat.{ℕ, zero, suc, ◌+◌, ◌-◌, ◌≤◌, ◌<◌}
use native.Mathlib.Omega.{arith}
use lib.ListN.{length, set, drop}
use Rattle.plan.specs.Waits.{top}
use Rattle.plan.proofs.Lists.{four_long}
use Rattle.plan.proofs.Waits.{top_push}
use Rattle.std.specs.Prelude.{Some, None}
use Rattle.size_walk.specs.Effects.{Emits}
use Rattle.size_walk.specs.Steps.{emits_of, pick}

-- ---- what waits

drop_top : (s : List ℕ) (n k : ℕ) → top s (n - k) ≡ drop k (top s n)
unfolding top
drop_top s n zero = let e : n - 0 ≡ n = omega arith in rw e
drop_top s zero (suc k) = let e : 0 - suc k ≡ 0 = omega arith in rw e
drop_top s (suc n) (suc k) = let e : suc n - suc k ≡ n - k = omega arith in rw e (drop_top s n k)

pub top_less : (s : List ℕ) (n k q : ℕ) → q ≡ n - k → top s q ≡ drop k (top s n)
top_less s n k q e = rw e (drop_top s n k)

pub top_over : (s : List ℕ) (n k q v : ℕ) → q ≡ n - k → n < length s → top (set s q v) (q + 1) ≡ v ∷ drop k (top s n)
top_over s n k q v e h = top_push s q v (omega arith) ∙ ap (λ (l : List ℕ). v ∷ l) (top_less s n k q e)

-- ---- what is stored

pub emits_few : (e : Emits) → length (emits_of e) ≤ 4
unfolding emits_of
emits_few None = omega arith
emits_few (Some i) = let h = four_long i in omega arith

pub pick_within : (b : Bool) (x y r : ℕ) → r ≡ pick b x y → y ≤ x → r ≤ x
unfolding pick
pick_within true x y r e h = omega arith
pick_within false x y r e h = omega arith
