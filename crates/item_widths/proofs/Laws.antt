-- Which slots may be kept. Assumes nothing.
use Prim.Native.Nat.{ℕ, ◌≤◌, ◌<◌}
use mathlib.Core.Path.{◌≡◌, refl, ap}
use mathlib.Core.List.{List}
use mathlib.Core.Bool.{Bool, true, false}
use native.Mathlib.Omega.{arith}
use lib.Dec.{eqb, ltb}
use borrow.Author.Tests.{ltb-true, le-ltb, lt-ltb}
use Rattle.language.specs.Limits.{limits}
use Rattle.plan.specs.Sound.{Rules, slot_width, keepable, slots, unset}

-- a slot that may be kept: of a `val`, of a `case`, and of either it is there
module _ (t : Rules) (ls : List ℕ) (k : ℕ) where
  pub keepable_val : k < limits.vals → keepable t ls k ≡ eqb (slot_width t ls k) unset
  unfolding keepable
  keepable_val h = ap (λ (b : Bool). elim b [ true ↦ eqb (slot_width t ls k) unset | false ↦ ltb k slots ]) (lt-ltb k limits.vals h)

  pub keepable_case : limits.vals ≤ k → keepable t ls k ≡ ltb k slots
  unfolding keepable
  keepable_case h = ap (λ (b : Bool). elim b [ true ↦ eqb (slot_width t ls k) unset | false ↦ ltb k slots ]) (le-ltb k limits.vals h)

  pub keepable_there : keepable t ls k ≡ true → k < slots
  unfolding keepable
  keepable_there h = go (ltb k limits.vals) refl h
    where
      go : (b : Bool) → ltb k limits.vals ≡ b → elim b [ true ↦ eqb (slot_width t ls k) unset | false ↦ ltb k slots ] ≡ true → k < slots
      go true e f = let l = ltb-true k limits.vals e in omega arith
      go false e f = ltb-true k slots f
