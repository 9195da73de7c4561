-- The iteration from zero: it rises, and stays below every solution. Assumes nothing.
use mathlib.Core.Path.{◌≡◌, refl, sym, ap, ◌∙◌, subst}
use mathlib.Core.Logic.{◌⊎◌, inl, inr}
use mathlib.Core.List.{List, [], ◌∷◌}
use Prim.Native.Nat.{ℕ, zero, suc, ◌+◌, ◌-◌, ◌*◌, ◌≤◌, ◌<◌, zero-le}
use native.Mathlib.Nat.{le_refl, le_trans, le_of_eq, not-le_of_lt, lt_of_lt_of_le, not-suc-le-zero, le_of_suc-le-suc, mul-le-mul_right, suc-mul, eq-or-lt_of_le}
use native.Mathlib.Decide.{ℕ_discrete}
use native.Mathlib.Numerals.{add-one}
use native.Mathlib.Omega.{arith}
use lib.Arith.{lt_of_le-ne}
use lib.Dec.{lit≤}
use lib.ListN.{length, get_or, set, replicate, length-replicate}
use lib.Seq.{get_or-set_same, get_or-set_other}
use Rattle.language.specs.Types.{width_of}
use Rattle.type_value.specs.Terms.{Term, number, value_at, Fine, TypeOf, Small}
use Rattle.type_value.specs.Walk.{TermStands}
use Rattle.typing.specs.Solved.{wanted, Solves, Lowest, Coded}
use Rattle.type_value.proofs.Grows.{Under, widths_grow}

-- every type keeps the rules
abbrev pub AllFine : List Term → Type 0
AllFine ts = (i : ℕ) → i < length ts → Fine (length ts) (get_or ts i (number 0))

pub all_fine : (ts : List Term) (code starts ends : List ℕ) → Coded ts code starts ends → AllFine ts
all_fine ts code starts ends c i h = (c.right i h).fine

pub record Progress (ts : List Term) (ws : List ℕ) (i : ℕ) : Type 0 where
  pub sofar : (j : ℕ) → j < i → get_or ws j 0 ≡ wanted ts ws j
  pub rising : (j : ℕ) → j < length ts → get_or ws j 0 ≤ wanted ts ws j
  pub under : (vs : List ℕ) → Solves ts vs → Under ws vs

wanted_grows : (ts : List Term) → AllFine ts → (ws vs : List ℕ) → Under ws vs → (i : ℕ) → i < length ts → wanted ts ws i ≤ wanted ts vs i
unfolding wanted
wanted_grows ts g ws vs h i l = widths_grow (length ts) ws vs h (get_or ts i (number 0)) (g i l)

-- what a type comes to at widths below a solution is below the solution
below_solution : (ts : List Term) → AllFine ts → (ws : List ℕ) (i : ℕ) → i < length ts → (vs : List ℕ) → Solves ts vs → Under ws vs → wanted ts ws i ≤ get_or vs i 0
below_solution ts g ws i l vs s h = le_trans (wanted_grows ts g ws vs h i l) (le_of_eq (sym (s.holds i l)))

zeros : (n i : ℕ) → ◌≡◌ {A = ℕ} (get_or (replicate n 0) i 0) 0
zeros zero i = refl
zeros (suc n) zero = refl
zeros (suc n) (suc i) = zeros n i

pub at_zero : (ts : List Term) (n : ℕ) → Progress ts (replicate n 0) 0
at_zero ts n = record {
  sofar = λ j h. absurd (not-suc-le-zero h);
  rising = λ j h. rw (zeros n j) zero-le;
  under = λ vs s j. rw (zeros n j) zero-le;
}

pub zero_small : (n i k : ℕ) → ◌≤◌ (get_or (replicate n 0) i 0) k
zero_small n i k = rw (zeros n i) zero-le

pub same : (ts : List Term) (ws : List ℕ) (i : ℕ) → get_or ws i 0 ≡ wanted ts ws i → Progress ts ws i → Progress ts ws (i + 1)
same ts ws i e p = record { sofar = λ j h. go j (eq-or-lt_of_le (le_of_suc-le-suc (subst (λ (n : ℕ). j < n) (add-one i) h))); rising = p.rising; under = p.under }
  where
    go : (j : ℕ) → (j ≡ i) ⊎ (j < i) → get_or ws j 0 ≡ wanted ts ws j
    go j (inl q) = subst (λ (k : ℕ). get_or ws k 0 ≡ wanted ts ws k) (sym q) e
    go j (inr h) = p.sofar j h

-- at i, and elsewhere
by_place : (P : ℕ → Type 0) (i : ℕ) → P i → ((j : ℕ) → (j ≡ i → ⊥) → P j) → (j : ℕ) → P j
by_place P i h f j = go (ℕ_discrete j i)
  where
    go : Dec (j ≡ i) → P j
    go (yes e) = subst P (sym e) h
    go (no n) = f j n

pub change : (ts : List Term) → AllFine ts → (ws : List ℕ) (i v : ℕ) → i < length ts → i < length ws → v ≡ wanted ts ws i → Progress ts ws i → Progress ts (set ws i v) 0
change ts g ws i v lt lw e p =
    let up : Under ws (set ws i v) = by_place (λ (j : ℕ). get_or ws j 0 ≤ get_or (set ws i v) j 0) i
    (rw (get_or-set_same ws i v 0 lw, e) (p.rising i lt)) (λ j n. rw (get_or-set_other ws i j v 0 n) (le_refl _)) in
    record {
      sofar = λ j h. absurd (not-suc-le-zero h);
      rising = by_place (λ (j : ℕ). j < length ts → get_or (set ws i v) j 0 ≤ wanted ts (set ws i v) j) i
          (λ h. subst (λ (x : ℕ). x ≤ wanted ts (set ws i v) i) (sym (get_or-set_same ws i v 0 lw ∙ e)) (wanted_grows ts g ws (set ws i v) up i h))
          (λ j n h. subst (λ (x : ℕ). x ≤ wanted ts (set ws i v) j) (sym (get_or-set_other ws i j v 0 n)) (le_trans (p.rising j h) (wanted_grows ts g ws (set ws i v) up j h)));
      under = λ vs s. by_place (λ (j : ℕ). get_or (set ws i v) j 0 ≤ get_or vs j 0) i
          (subst (λ (x : ℕ). x ≤ get_or vs i 0) (sym (get_or-set_same ws i v 0 lw ∙ e)) (below_solution ts g ws i lt vs s (p.under vs s)))
          (λ j n. subst (λ (x : ℕ). x ≤ get_or vs j 0) (sym (get_or-set_other ws i j v 0 n)) (p.under vs s j));
    }

pub small_set : (ws : List ℕ) (i v k : ℕ) → i < length ws → v ≤ k → ((j : ℕ) → get_or ws j 0 ≤ k) → (j : ℕ) → get_or (set ws i v) j 0 ≤ k
small_set ws i v k l h s =
    by_place (λ (j : ℕ). get_or (set ws i v) j 0 ≤ k) i (subst (λ (x : ℕ). x ≤ k) (sym (get_or-set_same ws i v 0 l)) h)
    (λ j n. subst (λ (x : ℕ). x ≤ k) (sym (get_or-set_other ws i j v 0 n)) (s j))

pub finish : (ts : List Term) (ws : List ℕ) (i : ℕ) → length ts ≤ i → length ws ≡ length ts → ((j : ℕ) → get_or ws j 0 ≤ 32) → Progress ts ws i → Lowest ts ws
finish ts ws i h l s p = record { solves = record { long = l; small = s; holds = λ j g. p.sofar j (lt_of_lt_of_le g h) }; least = p.under }

pub none : (ts : List Term) → AllFine ts → (ws : List ℕ) (i v : ℕ) → i < length ts → v ≡ wanted ts ws i → 32 < v → Progress ts ws i → (vs : List ℕ) → Solves ts vs → ⊥
none ts g ws i v l e h p vs s =
    not-le_of_lt h (le_trans (le_of_eq e) (le_trans (below_solution ts g ws i l vs s (p.under vs s)) (s.small i)))

-- ---- the measure

unfoldable pub slack : List ℕ → ℕ
slack [] = 0
slack (w ∷ ws) = (32 - w) + slack ws

pub slack_falls : (ws : List ℕ) (i v : ℕ) → i < length ws → get_or ws i 0 < v → v ≤ 32 → slack (set ws i v) < slack ws
unfolding slack
slack_falls [] i v l h g = absurd (not-suc-le-zero l)
slack_falls (w ∷ ws) zero v l h g = omega arith
slack_falls (w ∷ ws) (suc i) v l h g = omega (arith, slack_falls ws i v (le_of_suc-le-suc l) h g)

-- whatever comes next, a rise makes the measure fall
pub measure_falls : (ws : List ℕ) (n i v k : ℕ) → i < length ws → get_or ws i 0 < v → v ≤ 32 → slack (set ws i v) * suc n + (n - k) < slack ws * suc n + (n - i)
measure_falls ws n i v k l h g =
    let a : suc (slack (set ws i v)) * suc n ≤ slack ws * suc n = mul-le-mul_right (suc n) (slack_falls ws i v l h g) in
    omega (arith, suc-mul (slack (set ws i v)) (suc n))

-- ---- what a turn has and gives

module _ (ts : List Term) (code starts ends : List ℕ) (c : Coded ts code starts ends) where
  pub in_range : (i : ℕ) → i < length starts → i < length ts
  in_range i h = subst (λ (k : ℕ). i < k) c.count h

  pub told : (ws : List ℕ) (i v : ℕ) → length ws ≡ length starts → ((j : ℕ) → get_or ws j 0 ≤ 32) → i < length starts
      → ((t : Term) → TermStands t code (get_or starts i 0) (get_or ends i 0) → TypeOf (length ws) t → Small ws → v ≡ width_of (value_at ws t)) → v ≡ wanted ts ws i
  unfolding wanted
  told ws i v e small h f =
      let l : i < length ts = in_range i h in
      f (get_or ts i (number 0)) (c.each i l) (subst (λ (k : ℕ). TypeOf k (get_or ts i (number 0))) (sym (e ∙ c.count)) (c.right i l)) (λ j. le_trans (small j) (lit≤ tt))

pub begins : (starts ws : List ℕ) (n : ℕ) → ws ≡ replicate n 0 → n ≡ length starts → (length ws ≡ length starts) × ((j : ℕ) → get_or ws j 0 ≤ 32) × ((ts : List Term) → Progress ts ws 0)
begins starts ws n e l = (
  ap length e ∙ length-replicate n 0 ∙ l,
  λ j. subst (λ (x : List ℕ). get_or x j 0 ≤ 32) (sym e) (zero_small n j 32),
  λ ts. subst (λ (x : List ℕ). Progress ts x 0) (sym e) (at_zero ts n),
)

-- a width that is not what its type comes to is less
pub less : (ts : List Term) (ws : List ℕ) (i v : ℕ) → i < length ts → v ≡ wanted ts ws i → (v ≡ get_or ws i 0 → ⊥) → Progress ts ws i → get_or ws i 0 < v
less ts ws i v h e n p = lt_of_le-ne (subst (λ (x : ℕ). get_or ws i 0 ≤ x) (sym e) (p.rising i h)) (λ q. n (sym q))
