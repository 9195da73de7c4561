-- The rules that fire: those of the plan are the code of those of the text, and no output is assigned by two of them.
use Prim.Native.Nat.{ℕ, suc, ◌+◌, ◌<◌}
use mathlib.Core.Path.{◌≡◌, refl, sym, ap, ◌∙◌, subst}
use mathlib.Core.List.{List, [], ◌∷◌, ◌++◌}
use mathlib.Core.Bool.{Bool, true, false, false≢true, true≢false}
use native.Mathlib.Omega.{arith}
use native.Mathlib.Nat.{add-zero}
use lib.ListN.{length, get_or, take, drop, length-append, get_or-append}
use lib.Seq.{get_or-append-add, split_at}
use Rattle.language.specs.Tree.{Rule, Group}
use Rattle.language.specs.Parts.{each}
use Rattle.language.specs.Counts.{rules_of}
use Rattle.language.specs.Sizes.{Setting}
use Rattle.language.specs.Meaning.{agrees, matching, firing, fired, unfired, Fired}
use Rattle.plan.specs.Layout.{group_at, rules_before, code_at}
use Rattle.judged.specs.Groups as PlanGroups
use Rattle.plan_of.specs.PlanOf.{rule_code, plan_of}
use Rattle.placed.proofs.Every.{each_append}
use Rattle.plan_of.proofs.Sections.{no_rule, no_group, rules_before_law}
use Rattle.plan_of.proofs.Rules.{FineRule, Coded}

-- ## Consecutive rules

abbrev pub Stretch : (ℕ → Rule → Type 0) → ℕ → List Rule → Type 0
Stretch At i [] = Unit {0}
Stretch At i (r ∷ rs) = At i r × Stretch At (suc i) rs

pub stretch : (At : ℕ → Rule → Type 0) (i : ℕ) (rs : List Rule) → ((j : ℕ) → j < length rs → At (i + j) (get_or rs j no_rule)) → Stretch At i rs
stretch At i [] f = tt
stretch At i (r ∷ rs) f =
    (subst (λ (k : ℕ). At k r) (add-zero i) (f 0 (omega arith)), stretch At (suc i) rs (λ j h. let e : i + suc j ≡ suc i + j = omega arith in subst (λ (k : ℕ). At k (get_or rs j no_rule)) e (f (suc j) (omega arith))))

module _ (s : Setting) where
  -- the rules of group g stand in a row
  pub group_rule : (g j : ℕ) → g < length s.actor.groups → j < length (get_or s.actor.groups g no_group).rules
      → (rules_before (plan_of s) g + j < length (rules_of s.actor)) × (get_or (rules_of s.actor) (rules_before (plan_of s) g + j) no_rule ≡ get_or (get_or s.actor.groups g no_group).rules j no_rule)
  unfolding rules_of each
  group_rule g j h k =
      rw (rules_before_law s g (omega arith), rules_are) (
        rw (length-append firsts (here ++ others), length-append here others) (omega arith),
        get_or-append-add firsts (here ++ others) j no_rule ∙ get_or-append here others no_rule j k,
      )
    where
      firsts : List Rule
      firsts = each (λ g. g.rules) (take g s.actor.groups)

      here : List Rule
      here = (get_or s.actor.groups g no_group).rules

      others : List Rule
      others = each (λ g. g.rules) (drop (suc g) s.actor.groups)

      rules_are : each (λ g. g.rules) s.actor.groups ≡ firsts ++ (here ++ others)
      rules_are = ap (each (λ g. g.rules)) (split_at s.actor.groups g no_group h) ∙ each_append (λ g. g.rules) (take g s.actor.groups) (get_or s.actor.groups g no_group ∷ drop (suc g) s.actor.groups)

-- ## Matching and firing

module _ (s : Setting) (ms : List (List ℕ)) (p : List ℕ) (mask : ℕ) where
  -- rule i of the plan is the code of r, and matches where r does
  abbrev pub Placed : ℕ → Rule → Type 0
  Placed i r = (PlanGroups.matches_of p mask i ≡ agrees s mask r.list) × (code_at p i ≡ rule_code s r) × FineRule s ms r

  pub matching_agrees : (i : ℕ) (rs : List Rule) → Stretch Placed i rs → Coded s ms p (PlanGroups.matching p mask i (length rs)) (matching s mask rs)
  unfolding PlanGroups.matching matching each
  matching_agrees i [] f = tt
  matching_agrees i (r ∷ rs) f = go (PlanGroups.matches_of p mask i) (agrees s mask r.list) f.0.0 (matching_agrees (suc i) rs f.1)
    where
      go : (a b : Bool) → a ≡ b → Coded s ms p (PlanGroups.matching p mask (suc i) (length rs)) (matching s mask rs)
          → Coded s ms p (elim a [ true ↦ i ∷ PlanGroups.matching p mask (suc i) (length rs) | false ↦ PlanGroups.matching p mask (suc i) (length rs) ])
          ((elim b as (λ _. List Rule) [ true ↦ r ∷ [] | false ↦ [] ]) ++ matching s mask rs)
      go true true e c = (f.0.1, f.0.2, c)
      go true false e c = absurd (true≢false e)
      go false true e c = absurd (false≢true e)
      go false false e c = c

  abbrev pub Groups : ℕ → List Group → Type 0
  Groups g [] = Unit {0}
  Groups g (x ∷ gs) = (group_at p g ≡ length x.rules) × Stretch Placed (rules_before p g) x.rules × Groups (suc g) gs

  abbrev pub Fires : PlanGroups.Fired p → Fired → Type 0
  Fires (PlanGroups.fired is) (fired rs) = Coded s ms p is rs
  Fires (PlanGroups.fired is) (unfired n) = ⊥
  Fires (PlanGroups.unfired m) (fired rs) = ⊥
  Fires (PlanGroups.unfired m) (unfired n) = m ≡ n

  -- what fires of a group by how many rules match, by the plan and by the text
  plan_fires_none : (g n : ℕ) → PlanGroups.matching p mask (rules_before p g) (group_at p g) ≡ [] → PlanGroups.firing p mask g (suc n) ≡ PlanGroups.unfired 23
  unfolding PlanGroups.firing
  plan_fires_none g n e = rw (e, PlanGroups.firing)

  plan_fires_one : (g n r : ℕ) → PlanGroups.matching p mask (rules_before p g) (group_at p g) ≡ r ∷ []
      → PlanGroups.firing p mask g (suc n) ≡ (elim (PlanGroups.firing p mask (suc g) n) as (λ _. PlanGroups.Fired p) [ PlanGroups.fired l ↦ PlanGroups.fired (r ∷ l) | PlanGroups.unfired k ↦ PlanGroups.unfired k ])
  unfolding PlanGroups.firing
  plan_fires_one g n r e = rw (e, PlanGroups.firing)

  plan_fires_two : (g n r q : ℕ) (l : List ℕ) → PlanGroups.matching p mask (rules_before p g) (group_at p g) ≡ r ∷ q ∷ l → PlanGroups.firing p mask g (suc n) ≡ PlanGroups.unfired 24
  unfolding PlanGroups.firing
  plan_fires_two g n r q l e = rw (e, PlanGroups.firing)

  fires_none : (x : Group) (gs : List Group) → matching s mask x.rules ≡ [] → firing s mask (x ∷ gs) ≡ unfired 23
  unfolding firing
  fires_none x gs e = rw (e, firing)

  fires_one : (x : Group) (gs : List Group) (r : Rule) → matching s mask x.rules ≡ r ∷ [] → firing s mask (x ∷ gs) ≡ (elim (firing s mask gs) as (λ _. Fired) [ fired l ↦ fired (r ∷ l) | unfired n ↦ unfired n ])
  unfolding firing
  fires_one x gs r e = rw (e, firing)

  fires_two : (x : Group) (gs : List Group) (r q : Rule) (l : List Rule) → matching s mask x.rules ≡ r ∷ q ∷ l → firing s mask (x ∷ gs) ≡ unfired 24
  unfolding firing
  fires_two x gs r q l e = rw (e, firing)

  pub firing_agrees : (g : ℕ) (gs : List Group) → Groups g gs → Fires (PlanGroups.firing p mask g (length gs)) (firing s mask gs)
  unfolding PlanGroups.firing firing
  firing_agrees g [] f = tt
  firing_agrees g (x ∷ gs) f =
      go (PlanGroups.matching p mask (rules_before p g) (group_at p g)) (matching s mask x.rules) refl refl
      (subst (λ (n : ℕ). Coded s ms p (PlanGroups.matching p mask (rules_before p g) n) (matching s mask x.rules)) (sym f.0) (matching_agrees (rules_before p g) x.rules f.1))
      (firing_agrees (suc g) gs f.2)
    where
      next : (i : ℕ) (r : Rule) (m : PlanGroups.Fired p) (n : Fired) → (code_at p i ≡ rule_code s r) × FineRule s ms r → Fires m n
          → Fires (elim m as (λ _. PlanGroups.Fired p) [ PlanGroups.fired l ↦ PlanGroups.fired (i ∷ l) | PlanGroups.unfired k ↦ PlanGroups.unfired k ]) (elim n as (λ _. Fired) [ fired l ↦ fired (r ∷ l) | unfired k ↦ unfired k ])
      next i r (PlanGroups.fired is) (fired rs) c h = (c.0, c.1, h)
      next i r (PlanGroups.fired is) (unfired n) c h = absurd h
      next i r (PlanGroups.unfired m) (fired rs) c h = absurd h
      next i r (PlanGroups.unfired m) (unfired n) c h = h

      -- both from what both are equal to
      by : {m : PlanGroups.Fired p} {n : Fired} → PlanGroups.firing p mask g (suc (length gs)) ≡ m → firing s mask (x ∷ gs) ≡ n → Fires m n → Fires (PlanGroups.firing p mask g (suc (length gs))) (firing s mask (x ∷ gs))
      by {m = m} {n = n} d e h = subst (λ (k : Fired). Fires (PlanGroups.firing p mask g (suc (length gs))) k) (sym e) (subst (λ (k : PlanGroups.Fired p). Fires k n) (sym d) h)

      go : (is : List ℕ) (rs : List Rule) → PlanGroups.matching p mask (rules_before p g) (group_at p g) ≡ is → matching s mask x.rules ≡ rs → Coded s ms p is rs
          → Fires (PlanGroups.firing p mask (suc g) (length gs)) (firing s mask gs) → Fires (PlanGroups.firing p mask g (suc (length gs))) (firing s mask (x ∷ gs))
      go [] [] d e c h = by (plan_fires_none g _ d) (fires_none x gs e) refl
      go [] (r ∷ rs) d e c h = absurd c
      go (i ∷ is) [] d e c h = absurd c
      go (i ∷ []) (r ∷ []) d e c h = by (plan_fires_one g _ i d) (fires_one x gs r e) (next i r (PlanGroups.firing p mask (suc g) (length gs)) (firing s mask gs) (c.0, c.1) h)
      go (i ∷ []) (r ∷ q ∷ l) d e c h = absurd c.2
      go (i ∷ j ∷ is) (r ∷ []) d e c h = absurd c.2
      go (i ∷ j ∷ is) (r ∷ q ∷ l) d e c h = by (plan_fires_two g _ i j is d) (fires_two x gs r q l e) refl
