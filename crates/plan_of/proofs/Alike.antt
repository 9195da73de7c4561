-- Two cycles of one plan that are alike in memory, mask, lengths and the values of present inputs are alike in answer, count and memory and, if accepted, in outputs.
use Prim.Native.Nat.{ℕ, zero, suc, ◌^◌, ◌≤◌, ◌<◌}
use mathlib.Core.Path.{◌≡◌, refl, sym, ap, ap₂, ◌∙◌, subst}
use mathlib.Core.List.{List, [], ◌∷◌}
use mathlib.Core.Bool.{Bool, true, false, ◌&&◌, ◌||◌, false≢true, true≢false}
use native.Mathlib.Omega.{arith}
use lib.ListN.{get_or, replicate}
use lib.Dec.{leb, ltb, eqb}
use borrow.Author.Tests.{eqb-true, eqb-false, ltb-true, leb-true, leb-false}
use Rattle.language.specs.Values.{bit_of}
use Rattle.language.specs.Meaning.{Outcome, twice, written}
use Rattle.plan.specs.declared.Item.{Item}
use Rattle.plan.specs.declared.Item.TheVariants.{Const, Port, Let as Kept, Cell, Range, Copies, Beside, Before, Between, Choice, Arm, Keep, Assign, Write, Bad}
use Rattle.plan.specs.Items.{decode_all}
use Rattle.plan.specs.Layout.{port_count, memory_count, port_at, present_at, absent_at, group_count, group_at, rules_before, code_at}
use Rattle.plan.specs.Sound.{Rules, Check, check, broken, test, input_ok, check1, check_step, check_all, Ended, ended, unended, end_of, sections_ok, rule_check, joined, group_check, groups_check, sound_of}
use Rattle.item_steps.specs.Machine.{State, state, exec1, exec_all, exec_rules}
use Rattle.judged.specs.Groups.{bits_agree, matches_of, matching, Fired, fired, unfired, firing}
use Rattle.judged.specs.Tests.{all_below, input_fits, memory_fits, fitting, counts}
use Rattle.turn.specs.Cycle.{refused_by, ends, sound_cycle, cycle_of}
use Rattle.plan_of.specs.Theorems.{SameGiven, Alike}
use Rattle.placed.proofs.Names.{both_true}
use Rattle.plan_of.proofs.Masks.{bit_small}
use native.Mathlib.Decide.{dec_lt}
use Rattle.placed.specs.Placed.{Every}

ended_not : {A : Type 0} {d : ℕ} → unended ≡ ended d → A
ended_not e = let z : ◌≡◌ {A = ℕ} 0 1 = cc in absurd (omega arith)

broken_stays : (t : Rules) (is : List Item) → check_all t is broken ≡ broken
unfolding check_all check_step
broken_stays t [] = refl
broken_stays t (i ∷ is) = broken_stays t is

broken_ends : {A : Type 0} {m : ℕ} (t : Rules) (is : List Item) → end_of (check_all t is broken) ≡ ended m → A
unfolding end_of
broken_ends t is h = ended_not (sym (ap end_of (broken_stays t is)) ∙ h)

-- ## Items read inputs that are bound

module _ (t : Rules) (v w memory : List ℕ) (same : (i : ℕ) → input_ok t i ≡ true → get_or v i 0 ≡ get_or w i 0) where
  item_alike : (i : Item) (is : List Item) (ws ls : List ℕ) (d m : ℕ) (s : State) → end_of (check_all t is (check1 t i ws ls d)) ≡ ended m → exec1 v memory i s ≡ exec1 w memory i s
  unfolding test
  item_alike (Const x lo hi) is ws ls d m s h = refl
  item_alike (Port i) is ws ls d m s h = rw (same i (go (input_ok t i) h))
    where
      go : (b : Bool) → end_of (check_all t is (test b (Rattle.plan.specs.Sound.push (port_at t.plan i) ws ls d))) ≡ ended m → b ≡ true
      go true h = refl
      go false h = broken_ends t is h
  item_alike (Kept k) is ws ls d m s h = refl
  item_alike (Cell k f n) is ws ls d m s h = refl
  item_alike (Range i j) is ws ls d m s h = refl
  item_alike (Copies n x) is ws ls d m s h = refl
  item_alike (Beside x) is ws ls d m s h = refl
  item_alike (Before u x) is ws ls d m s h = refl
  item_alike (Between o k n) is ws ls d m s h = refl
  item_alike Choice is ws ls d m s h = refl
  item_alike (Arm n k) is ws ls d m s h = refl
  item_alike (Keep k x) is ws ls d m s h = refl
  item_alike (Assign q) is ws ls d m s h = refl
  item_alike (Write k f n) is ws ls d m s h = refl
  item_alike Bad is ws ls d m s h = refl

  exec_alike : (is : List Item) (c : Check) (m : ℕ) (s : State) → end_of (check_all t is c) ≡ ended m → exec_all v memory is s ≡ exec_all w memory is s
  unfolding check_all check_step exec_all
  exec_alike [] c m s h = refl
  exec_alike (i ∷ is) broken m s h = broken_ends t is h
  exec_alike (i ∷ is) (check ws ls d) m s h = ap (exec_all v memory is) (item_alike i is ws ls d m s h) ∙ exec_alike is (check1 t i ws ls d) m (exec1 w memory i s) h

-- ## Rules that fire

and_false : (a : Bool) → (a && false) ≡ false
and_false true = refl
and_false false = refl

abbrev FiredAll : (p : List ℕ) → (ℕ → Type 0) → Fired p → Type 0
FiredAll p P (fired rs) = Every P rs
FiredAll p P (unfired n) = n ≡ 0 → ⊥

module _ (p : List ℕ) (mask : ℕ) where
  -- a rule that matches, and whose code is sound
  abbrev Good : ℕ → Type 0
  Good r = (matches_of p mask r ≡ true) × ((taken : ℕ) × (d : ℕ) × (rule_check p taken r ≡ ended d))

  matching_good : (taken mine i n d : ℕ) → group_check p taken mine i n ≡ ended d → Every Good (matching p mask i n)
  unfolding group_check matching
  matching_good taken mine i zero d h = tt
  matching_good taken mine i (suc n) d h = go (rule_check p taken i) refl h (λ e q. matching_good taken (joined p mine e) (suc i) n d q)
    where
      both : (b : Bool) → matches_of p mask i ≡ b → (e : ℕ) → rule_check p taken i ≡ ended e → Every Good (matching p mask (suc i) n) → Every Good (elim b [ true ↦ i ∷ matching p mask (suc i) n | false ↦ matching p mask (suc i) n ])
      both true k e q r = ((k, (taken, e, q)), r)
      both false k e q r = r

      go : (x : Ended) → rule_check p taken i ≡ x → (elim x as (λ _. Ended) [ ended e ↦ group_check p taken (joined p mine e) (suc i) n | unended ↦ unended ]) ≡ ended d
          → ((e : ℕ) → group_check p taken (joined p mine e) (suc i) n ≡ ended d → Every Good (matching p mask (suc i) n))
          → Every Good (elim (matches_of p mask i) [ true ↦ i ∷ matching p mask (suc i) n | false ↦ matching p mask (suc i) n ])
      go (ended e) q k r = both (matches_of p mask i) refl e q (r e k)
      go unended q k r = ended_not k

  -- what fires of a group by how many rules match
  fires_none : (g n : ℕ) → matching p mask (rules_before p g) (group_at p g) ≡ [] → firing p mask g (suc n) ≡ unfired 23
  unfolding firing
  fires_none g n e = rw (e, firing)

  fires_one : (g n r : ℕ) → matching p mask (rules_before p g) (group_at p g) ≡ r ∷ []
      → firing p mask g (suc n) ≡ (elim (firing p mask (suc g) n) as (λ _. Fired p) [ fired l ↦ fired (r ∷ l) | unfired k ↦ unfired k ])
  unfolding firing
  fires_one g n r e = rw (e, firing)

  fires_two : (g n r q : ℕ) (l : List ℕ) → matching p mask (rules_before p g) (group_at p g) ≡ r ∷ q ∷ l → firing p mask g (suc n) ≡ unfired 24
  unfolding firing
  fires_two g n r q l e = rw (e, firing)

  firing_good : (taken g n : ℕ) → groups_check p taken g n ≡ true → FiredAll p Good (firing p mask g n)
  unfolding groups_check firing
  firing_good taken g zero h = tt
  firing_good taken g (suc n) h = go (group_check p taken taken (rules_before p g) (group_at p g)) refl h (λ d q. firing_good d (suc g) n q)
    where
      join : (r : ℕ) (f : Fired p) → Good r → FiredAll p Good f → FiredAll p Good (elim f as (λ _. Fired p) [ fired l ↦ fired (r ∷ l) | unfired k ↦ unfired k ])
      join r (fired l) a b = (a, b)
      join r (unfired k) a b = b

      pick : (rs : List ℕ) → matching p mask (rules_before p g) (group_at p g) ≡ rs → Every Good rs → FiredAll p Good (firing p mask (suc g) n) → FiredAll p Good (firing p mask g (suc n))
      pick [] e a b = subst (λ (f : Fired p). FiredAll p Good f) (sym (fires_none g n e)) (λ q. absurd (omega arith))
      pick (r ∷ []) e a b = subst (λ (f : Fired p). FiredAll p Good f) (sym (fires_one g n r e)) (join r (firing p mask (suc g) n) a.0 b)
      pick (r ∷ q ∷ l) e a b = subst (λ (f : Fired p). FiredAll p Good f) (sym (fires_two g n r q l e)) (λ q. absurd (omega arith))

      go : (x : Ended) → group_check p taken taken (rules_before p g) (group_at p g) ≡ x → (elim x as (λ _. Bool) [ ended d ↦ groups_check p d (suc g) n | unended ↦ false ]) ≡ true
          → ((d : ℕ) → groups_check p d (suc g) n ≡ true → FiredAll p Good (firing p mask (suc g) n)) → FiredAll p Good (firing p mask g (suc n))
      go (ended d) e k r = pick (matching p mask (rules_before p g) (group_at p g)) refl (matching_good taken taken (rules_before p g) (group_at p g) d e) (r d k)
      go unended e k r = absurd (false≢true k)

  bits_at : (r m i : ℕ) → bits_agree p mask r m ≡ true → i < m → bit_of (present_at p r) i ≡ 1 → bit_of mask i ≡ 1
  unfolding bits_agree
  bits_at r zero i h k b = absurd (omega arith)
  bits_at r (suc m) i h k b =
      let x = both_true (bits_agree p mask r m && (eqb (bit_of (present_at p r) m) 0 || eqb (bit_of mask m) 1)) (eqb (bit_of (absent_at p r) m) 0 || eqb (bit_of mask m) 0) h in
      let y = both_true (bits_agree p mask r m) (eqb (bit_of (present_at p r) m) 0 || eqb (bit_of mask m) 1) x.0 in
      go (dec_lt i m) (λ q. bits_at r m i y.0 q b) y.1
    where
      go : Dec (i < m) → (i < m → bit_of mask i ≡ 1) → (eqb (bit_of (present_at p r) m) 0 || eqb (bit_of mask m) 1) ≡ true → bit_of mask i ≡ 1
      go (yes q) f u = f q
      go (no q) f u = let e : i ≡ m = omega arith in let c : bit_of (present_at p r) m ≡ 1 = rw e at b in rw e (eqb-true _ _ (rw c at u))

  module _ (v w memory : List ℕ) (alike : (i : ℕ) → i < port_count p → bit_of mask i ≡ 1 → port_at p i < 256 → get_or v i 0 ≡ get_or w i 0) where
    rules_alike : (rs : List ℕ) (s : State) → port_count p ≤ 16 → Every Good rs → exec_rules p v memory rs s ≡ exec_rules p w memory rs s
    unfolding exec_rules rule_check matches_of input_ok
    rules_alike [] s l h = refl
    rules_alike (r ∷ rs) s l h =
        let st = state [] (replicate 48 0) s.outputs s.writes in
        let t : Rules = record { plan = p; present = present_at p r; taken = h.0.1.0 } in
        let e = exec_alike t v w memory (λ i k. read i k) (decode_all (code_at p r)) (check [] (replicate 48 99) 0) h.0.1.1 st h.0.1.2 in
        ap (exec_rules p v memory rs) e ∙ rules_alike rs _ l h.1
      where
        read : (i : ℕ) → (ltb i (port_count p) && leb (port_at p i) 32 && eqb (bit_of (present_at p r) i) 1) ≡ true → get_or v i 0 ≡ get_or w i 0
        read i k =
            let a = both_true (ltb i (port_count p) && leb (port_at p i) 32) (eqb (bit_of (present_at p r) i) 1) k in
            let b = both_true (ltb i (port_count p)) (leb (port_at p i) 32) a.0 in
            let c = ltb-true i (port_count p) b.0 in
            let d = leb-true (port_at p i) 32 b.1 in
            alike i c (bits_at r 32 i h.0.0 (omega arith) (eqb-true _ _ a.1)) (omega arith)

    inputs_alike : (n : ℕ) → n ≤ port_count p → all_below p n (input_fits p mask v) ≡ all_below p n (input_fits p mask w)
    unfolding all_below input_fits
    inputs_alike zero h = refl
    inputs_alike (suc n) h = ap₂ ◌&&◌ (inputs_alike n (omega arith)) (go (eqb (bit_of mask n) 0) (leb 256 (port_at p n)) refl refl)
      where
        go : (a b : Bool) → eqb (bit_of mask n) 0 ≡ a → leb 256 (port_at p n) ≡ b → ((a || b) || ltb (get_or v n 0) (2 ^ port_at p n)) ≡ ((a || b) || ltb (get_or w n 0) (2 ^ port_at p n))
        go true b x y = refl
        go false true x y = refl
        go false false x y = let z = eqb-false (bit_of mask n) 0 x in let u = bit_small mask n in let q = leb-false 256 (port_at p n) y in rw (alike n h (omega arith) q)

    fitting_alike : fitting p mask v memory ≡ fitting p mask w memory
    unfolding fitting
    fitting_alike = ap (λ (b : Bool). ltb mask (2 ^ port_count p) && b && all_below p (memory_count p) (memory_fits p memory)) (inputs_alike (port_count p) (omega arith))

-- no answer but 0 has outputs of its own
refused_alike : (p : List ℕ) (n : ℕ) (memory x y : List ℕ) → (n ≡ 0 → ⊥) → Alike (refused_by p n memory x) (refused_by p n memory y)
unfolding refused_by
refused_alike p n memory x y h = record { answer = refl; count = refl; memory = refl; outputs = λ e. absurd (h e) }

sound_parts : (p : List ℕ) → sound_of p ≡ true → (port_count p ≤ 16) × (groups_check p 0 0 (group_count p) ≡ true)
unfolding sound_of sections_ok
sound_parts p h = go (sections_ok p) refl h
  where
    few : sections_ok p ≡ true → port_count p ≤ 16
    few e = one (leb (port_count p) 16) refl
      where
        one : (b : Bool) → leb (port_count p) 16 ≡ b → port_count p ≤ 16
        one true q = leb-true _ _ q
        one false q = let z : sections_ok p ≡ false = rw (sections_ok, q, and_false (eqb (Rattle.plan.specs.Layout.form p) 1 && leb 1 (port_count p))) in absurd (true≢false (sym e ∙ z))

    go : (b : Bool) → sections_ok p ≡ b → (elim b as (λ _. Bool) [ true ↦ groups_check p 0 0 (group_count p) | false ↦ false ]) ≡ true → (port_count p ≤ 16) × (groups_check p 0 0 (group_count p) ≡ true)
    go true e k = (few e, k)
    go false e k = absurd (false≢true k)

module _ (p : List ℕ) (mask : ℕ) (v w memory x y : List ℕ) (alike : SameGiven p mask v w x y) where
  ends_alike : (s : State) → Alike (ends p mask memory x s) (ends p mask memory y s)
  unfolding ends
  ends_alike s = go (twice s.writes)
    where
      done : Outcome
      done = record { answer = 0; count = Rattle.language.specs.Values.ones_of 32 mask; outputs = s.outputs; memory = written s.writes memory }

      go : (b : Bool) → Alike (elim b [ true ↦ refused_by p 25 memory x | false ↦ done ]) (elim b [ true ↦ refused_by p 25 memory y | false ↦ done ])
      go true = refused_alike p 25 memory x y (λ e. absurd (omega arith))
      go false = record { answer = refl; count = refl; memory = refl; outputs = λ e. refl }

  start : State
  start = state [] [] (replicate (port_count p) 0) []

  fired_alike : (f : Fired p) → FiredAll p (Good p mask) f → port_count p ≤ 16
      → Alike (elim f [ unfired n ↦ refused_by p n memory x | fired rs ↦ ends p mask memory x (exec_rules p v memory rs start) ]) (elim f [ unfired n ↦ refused_by p n memory y | fired rs ↦ ends p mask memory y (exec_rules p w memory rs start) ])
  fired_alike (fired rs) g l = rw (rules_alike p mask v w memory alike.inputs rs start l g) (ends_alike (exec_rules p w memory rs start))
  fired_alike (unfired n) g l = refused_alike p n memory x y g

  sound_alike : sound_of p ≡ true → Alike (sound_cycle p mask v memory x) (sound_cycle p mask w memory y)
  unfolding sound_cycle counts start
  sound_alike h = subst (λ (b : Bool). Alike (sound_cycle p mask v memory x) (elim b [ false ↦ refused_by p 21 memory y | true ↦ other ])) same_counts
      (go (counts p v memory x))
    where
      q : (port_count p ≤ 16) × (groups_check p 0 0 (group_count p) ≡ true)
      q = sound_parts p h

      other : Outcome
      other = elim (fitting p mask w memory) [ false ↦ refused_by p 22 memory y | true ↦ elim (firing p mask 0 (group_count p)) [ unfired n ↦ refused_by p n memory y | fired rs ↦ ends p mask memory y (exec_rules p w memory rs start) ] ]

      same_counts : counts p v memory x ≡ counts p w memory y
      same_counts = rw (counts, alike.values, alike.outputs)

      fit : (a b : Bool) → a ≡ b
          → Alike (elim a [ false ↦ refused_by p 22 memory x | true ↦ elim (firing p mask 0 (group_count p)) [ unfired n ↦ refused_by p n memory x | fired rs ↦ ends p mask memory x (exec_rules p v memory rs start) ] ])
          (elim b [ false ↦ refused_by p 22 memory y | true ↦ elim (firing p mask 0 (group_count p)) [ unfired n ↦ refused_by p n memory y | fired rs ↦ ends p mask memory y (exec_rules p w memory rs start) ] ])
      fit true true e = fired_alike (firing p mask 0 (group_count p)) (firing_good p mask 0 0 (group_count p) q.1) q.0
      fit true false e = absurd (true≢false e)
      fit false true e = absurd (false≢true e)
      fit false false e = refused_alike p 22 memory x y (λ e. absurd (omega arith))

      go : (b : Bool) → Alike (elim b [ false ↦ refused_by p 21 memory x | true ↦ elim (fitting p mask v memory) [ false ↦ refused_by p 22 memory x | true ↦ elim (firing p mask 0 (group_count p)) [ unfired n ↦ refused_by p n memory x | fired rs ↦ ends p mask memory x (exec_rules p v memory rs start) ] ] ])
          (elim b [ false ↦ refused_by p 21 memory y | true ↦ other ])
      go true = fit (fitting p mask v memory) (fitting p mask w memory) (fitting_alike p mask v w memory alike.inputs)
      go false = refused_alike p 21 memory x y (λ e. absurd (omega arith))

  -- THE THEOREM: for any list of numbers
  pub cycles_alike : Alike (cycle_of p mask v memory x) (cycle_of p mask w memory y)
  unfolding cycle_of
  cycles_alike = go (sound_of p) refl
    where
      go : (b : Bool) → sound_of p ≡ b → Alike (elim b [ true ↦ sound_cycle p mask v memory x | false ↦ refused_by p 20 memory x ]) (elim b [ true ↦ sound_cycle p mask w memory y | false ↦ refused_by p 20 memory y ])
      go true e = sound_alike e
      go false e = refused_alike p 20 memory x y (λ e. absurd (omega arith))
