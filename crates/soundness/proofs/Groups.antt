-- Groups and rules in turn, on lists. Assumes nothing.
use Prim.Native.Nat.{ℕ, suc, ◌+◌, ◌-◌, ◌≤◌, ◌<◌}
use mathlib.Core.Path.{◌≡◌, sym, ap, ◌∙◌}
use mathlib.Core.List.{List}
use mathlib.Core.Bool.{Bool, true, false}
use native.Mathlib.Omega.{arith}
use Rattle.language.specs.Values.{or_of}
use Rattle.plan.specs.Layout.{group_at, rules_before}
use Rattle.plan.specs.Sound.{Ended, ended, unended, rule_check, joined, group_check, groups_check}

module _ (p : List ℕ) (taken mine r count i : ℕ) (l : i < count) where
  abbrev left_over : suc (count - (i + 1)) ≡ count - i
  left_over = omega arith

  -- what the rules after this one make of what it assigns
  abbrev after_rule : Ended → Ended
  after_rule x = elim x [ ended y ↦ group_check p taken (or_of 16 mine y) (suc (r + i)) (count - (i + 1)) | unended ↦ unended ]

  pub group_turn : (d : ℕ) → ended d ≡ rule_check p taken (r + i) → group_check p taken mine (r + i) (count - i) ≡ group_check p taken (or_of 16 mine d) (r + (i + 1)) (count - (i + 1))
  unfolding group_check joined
  group_turn d e =
      let q : suc (r + i) ≡ r + (i + 1) = omega arith in
      rw (← left_over) (ap after_rule (sym e) ∙ rw q)

  pub group_stop : unended ≡ rule_check p taken (r + i) → group_check p taken mine (r + i) (count - i) ≡ unended
  unfolding group_check joined
  group_stop e = rw (← left_over) (ap after_rule (sym e))

pub group_done : (p : List ℕ) (taken mine r count i : ℕ) → count ≤ i → group_check p taken mine r (count - i) ≡ ended mine
unfolding group_check
group_done p taken mine r count i h = let e : count - i ≡ 0 = omega arith in rw e

module _ (p : List ℕ) (taken g n : ℕ) (l : g < n) where
  abbrev groups_over : suc (n - (g + 1)) ≡ n - g
  groups_over = omega arith

  -- what the groups after this one make of what it assigns
  abbrev after_group : Ended → Bool
  after_group x = elim x [ ended y ↦ groups_check p y (suc g) (n - (g + 1)) | unended ↦ false ]

  pub groups_turn : (d : ℕ) → ended d ≡ group_check p taken taken (rules_before p g) (group_at p g) → groups_check p taken g (n - g) ≡ groups_check p d (g + 1) (n - (g + 1))
  unfolding groups_check
  groups_turn d e =
      let q : suc g ≡ g + 1 = omega arith in
      rw (← groups_over) (ap after_group (sym e) ∙ rw q)

  pub groups_stop : unended ≡ group_check p taken taken (rules_before p g) (group_at p g) → groups_check p taken g (n - g) ≡ false
  unfolding groups_check
  groups_stop e = rw (← groups_over) (ap after_group (sym e))

pub groups_done : (p : List ℕ) (taken g n : ℕ) → n ≤ g → groups_check p taken g (n - g) ≡ true
unfolding groups_check
groups_done p taken g n h = let e : n - g ≡ 0 = omega arith in rw e
