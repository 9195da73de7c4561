-- The rules that fire, on lists. Assumes nothing.
use Prim.Native.Nat.{ℕ, zero, suc, ◌+◌, ◌-◌, ◌*◌, ◌/◌, ◌%◌, ◌≤◌, ◌<◌}
use mathlib.Core.Path.{◌≡◌, refl, ap, ap₂, ◌∙◌, subst}
use mathlib.Core.List.{List, [], ◌∷◌, ◌++◌}
use native.Mathlib.Numerals.{add-one}
use native.Mathlib.Omega.{arith}
use lib.ListN.{length, get_or, take, drop, replicate, length-replicate, drop_of_length-le}
use lib.Seq.{drop-cons, length-take-le, get_or-take, take_at}
use Rattle.plan.specs.Items.{decode_all}
use Rattle.plan.specs.Layout.{port_count, group_count, present_at, length_at, code_before, code_from, code_at}
use Rattle.plan.specs.Sound.{rule_check, unset}
use Rattle.item_steps.specs.Machine.{State, state, exec_rules}
use Rattle.item_steps.specs.declared.Tables.{Tables}
use Rattle.machine.specs.Safety.{Safe, Ran}
use Rattle.machine.specs.Fires.{Fires, rule_run, fired_run}
use Rattle.machine.proofs.Safe.{slots_start}

-- the code of a rule as it is found: some items from a place on
pub code_found : (p : List ℕ) (r from items : ℕ) → length_at p r % 4 ≡ 0 → from ≡ code_from p + 1 + code_before p r → items ≡ length_at p r / 4 → take (4 * items) (drop from p) ≡ code_at p r
unfolding code_at
code_found p r from items h d e = let q : 4 * items ≡ length_at p r = omega arith in rw (q, d)

-- a rule that was checked starts safe
pub fires_safe : (p values memory : List ℕ) (r : ℕ) (outputs : List ℕ) (f : Fires p values memory r) → length outputs ≡ port_count p
    → Safe p (present_at p r) f.taken (decode_all (code_at p r)) (state [] (replicate 48 0) outputs [])
unfolding rule_check
fires_safe p values memory r outputs f h =
    ([], replicate 48 unset, 0, (f.assigned, f.checked), refl, record { fit = tt; slot = slots_start 48; outs = h })

pub rules_next : (p values memory fired : List ℕ) (j : ℕ) → j < length fired → (s : State)
    → exec_rules p values memory (drop j fired) s ≡ exec_rules p values memory (drop (j + 1) fired) (rule_run p values memory (get_or fired j 0) s.outputs s.writes)
unfolding exec_rules rule_run
rules_next p values memory fired j h s = rw (drop-cons fired j 0 h, add-one j)

pub rules_done : (p values memory fired : List ℕ) (j : ℕ) (s : State) → length fired ≤ j → exec_rules p values memory (drop j fired) s ≡ s
unfolding exec_rules
rules_done p values memory fired j s h = rw (drop_of_length-le fired h)

pub ran_as : {memory outputs : List ℕ} {cells : ℕ} {t : Tables cells} {r s : State} → Ran memory outputs t r → r ≡ s → Ran memory outputs t s
ran_as {memory} {outputs} {cells} {t} l e = subst (λ (x : State). Ran memory outputs t x) e l

-- ---- the parts of the tables that the rules are run over

pub part_fires : (p values memory fired : List ℕ) (g : ℕ) → g ≡ group_count p → group_count p ≤ length fired → ((j : ℕ) → j < group_count p → Fires p values memory (get_or fired j 0))
    → (j : ℕ) → j < length (take g fired) → Fires p values memory (get_or (take g fired) j 0)
part_fires p values memory fired g e h f j k =
    let n : length (take g fired) ≡ group_count p = ap (λ (i : ℕ). length (take i fired)) e ∙ length-take-le (group_count p) fired h in
    let l : j < group_count p = omega (arith, n, k) in
    rw (e, get_or-take (group_count p) fired j 0 l) (f j l)

abbrev zeros : ℕ → List ℕ
zeros n = replicate n 0

take_zeros : (k n : ℕ) → k ≤ n → take k (zeros n) ≡ zeros k
take_zeros zero n h = refl
take_zeros (suc k) zero h = absurd (omega arith)
take_zeros (suc k) (suc n) h = ap (λ (l : List ℕ). 0 ∷ l) (take_zeros k n (omega arith))

part_zeros : (n m k : ℕ) → n ≡ m → m ≤ k → take n (zeros k) ≡ zeros m
part_zeros n m k e h = ap (λ (i : ℕ). take i (zeros k)) e ∙ take_zeros m k h

-- outputs that are 0: of a plan's ports, and how many there are
module _ (os : List ℕ) (n m k : ℕ) (z : os ≡ zeros k) (e : n ≡ m) (h : m ≤ k) where
  part_of_zeros : take n os ≡ zeros m
  part_of_zeros = ap (take n) z ∙ part_zeros n m k e h

  pub part_long : length (take n os) ≡ m
  part_long = ap length part_of_zeros ∙ length-replicate m 0

-- what the rules leave in the part of the outputs that the plan has
module _ (p values memory fired os : List ℕ) (g n : ℕ) (d : g ≡ group_count p) (e : n ≡ port_count p) (h : port_count p ≤ 16) (z : os ≡ zeros 16) where
  pub acted : (ys rest : List ℕ) {cells : ℕ} {t : Tables cells} → length ys ≡ length (take n os)
      → Ran memory ys t (exec_rules p values memory (take g fired) (state [] [] (take n os) []))
      → Ran memory (take (port_count p) (ys ++ rest)) t (fired_run p values memory (take (group_count p) fired))
  acted ys rest l r =
      let a : g - 0 ≡ group_count p = omega arith in
      let k : length ys ≡ port_count p = l ∙ part_long os n (port_count p) 16 z e h in
      ran_as (record { output = take_at ys rest (port_count p) k ∙ r.output; write = r.write })
      (ap₂ (λ (fs os : List ℕ). exec_rules p values memory fs (state [] [] os [])) (ap (λ (i : ℕ). take i fired) d) (part_of_zeros os n (port_count p) 16 z e h))
