-- A sound rule never goes wrong: what the check says of the widths holds of the values, and each item finds what it asks. Assumes nothing.
use Prim.Native.Nat.{ℕ, zero, suc, ◌+◌, ◌-◌, ◌*◌, ◌^◌, ◌≤◌, ◌<◌, max}
use mathlib.Core.Path.{◌≡◌, refl, sym, ap, ◌∙◌, subst}
use mathlib.Core.List.{List, [], ◌∷◌}
use mathlib.Core.Bool.{Bool, true, false, ◌&&◌}
use native.Mathlib.Omega.{arith}
use lib.Dec.{eqb, leb, ltb, lit<}
use lib.ListN.{length, get_or, set, drop, length-drop, length-set, replicate, length-replicate}
use lib.Seq.{get_or-set_same, get_or-set_other}
use lib.Pow.{pow_pos}
use borrow.Author.Tests.{ltb-true, ltb-false, leb-true, eqb-true, eqb-false}
use Rattle.language.specs.Meaning.{Change}
use Rattle.bits.proofs.Laws.{wider_lt}
use Rattle.ranges.proofs.Fits.{binary_fits, unary_fits, beside_fits, beside_within, copies_fits, range_fits, chosen_fits}
use Rattle.plan.specs.declared.Item.{Item}
use Rattle.plan.specs.declared.Item.TheVariants.{Const, Port, Let, Cell, Range, Copies, Beside, Before, Between, Choice, Arm, Keep, Assign, Write, Bad}
use Rattle.plan.specs.Layout.{port_at, memory_width_at}
use Rattle.plan.specs.Sound.{Check, check, broken, Rules, push, test, check1, end_of, ended, unended, input_ok, output_ok, memory_ok, slot_width, keepable, unset}
use Rattle.plan.specs.Sound.{rules_of}
use Rattle.plan.specs.Items.{takes_of, acts_of}
use Rattle.item_widths.specs.Widths.{width_if, width_of}
use Rattle.std.specs.Prelude.{Option, Some, None}
use Rattle.soundness.specs.Steps.{push_over}
use Rattle.plan.proofs.Tests.{and_left, and_right}
use Rattle.soundness.proofs.Laws.{pushes, output_facts}
use Rattle.item_widths.proofs.Laws.{keepable_there}
use Rattle.soundness.proofs.Turns.{check_broken}
use Rattle.item_steps.specs.Machine.{State, state, cell_of, pick, exec1}
use Rattle.item_steps.specs.Ready.{value_of, Asks}
use Rattle.machine.specs.Safety.{Good, Fit, SlotsFit, CodeGiven, StateHeld, Safe}
use Rattle.item_steps.proofs.Leaves.{leave}

-- ---- what the check of the rest says

module _ (t : Rules) (is : List Item) where
  not_broken : {A : Type 0} → Good t is broken → A
  unfolding end_of
  not_broken g = let z : unended ≡ ended g.0 = sym (ap end_of (check_broken t is)) ∙ g.1 in let y : ◌≡◌ {A = ℕ} 0 1 = cc z in absurd (omega arith)

  test_good : (b : Bool) (c : Check) → Good t is (test b c) → (b ≡ true) × Good t is c
  unfolding test
  test_good true c g = (refl, g)
  test_good false c g = not_broken g

  push_good : (w : ℕ) (ws ls : List ℕ) (d : ℕ) → Good t is (push w ws ls d) → (w ≤ 64) × (length ws < 256) × Good t is (check (w ∷ ws) ls d)
  unfolding push
  push_good w ws ls d g = go (leb w 64 && ltb (length ws) 256) refl g
    where
      go : (b : Bool) → (leb w 64 && ltb (length ws) 256) ≡ b → Good t is (elim b [ true ↦ check (w ∷ ws) ls d | false ↦ broken ])
          → (w ≤ 64) × (length ws < 256) × Good t is (check (w ∷ ws) ls d)
      go true e k = (leb-true w 64 (and_left (leb w 64) (ltb (length ws) 256) e), ltb-true (length ws) 256 (and_right (leb w 64) (ltb (length ws) 256) e), k)
      go false e k = not_broken k

  -- the width that was pushed, and what the check says of it
  over_good : (k : ℕ) (v : Option ℕ) (ws ls : List ℕ) (d : ℕ) → Good t is (push_over k v ws ls d)
      → (w : ℕ) × (v ≡ Some w) × (k ≤ length ws) × (w ≤ 64) × (length (drop k ws) < 256) × Good t is (check (w ∷ drop k ws) ls d)
  unfolding push_over
  over_good k None ws ls d g = not_broken g
  over_good k (Some w) ws ls d g = let r = go (ltb (length ws) k) refl g in (w, refl, r.0, r.1, r.2, r.3)
    where
      go : (b : Bool) → ltb (length ws) k ≡ b → Good t is (elim b [ true ↦ broken | false ↦ push w (drop k ws) ls d ])
          → (k ≤ length ws) × (w ≤ 64) × (length (drop k ws) < 256) × Good t is (check (w ∷ drop k ws) ls d)
      go true e q = not_broken q
      go false e q = let r = push_good w (drop k ws) ls d q in (ltb-false (length ws) k e, r.0, r.1, r.2)

-- ---- the values fit the widths

fit_length : (ws vs : List ℕ) → Fit ws vs → length ws ≡ length vs
fit_length [] [] f = refl
fit_length [] (v ∷ vs) f = absurd f
fit_length (w ∷ ws) [] f = absurd f
fit_length (w ∷ ws) (v ∷ vs) f = ap suc (fit_length ws vs f.2)

fit_at : (ws vs : List ℕ) (k : ℕ) → Fit ws vs → (get_or ws k 0 ≤ 64) × (get_or vs k 0 < 2 ^ get_or ws k 0)
fit_at [] [] k f = (omega arith, lit< tt)
fit_at [] (v ∷ vs) k f = absurd f
fit_at (w ∷ ws) [] k f = absurd f
fit_at (w ∷ ws) (v ∷ vs) zero f = (f.0, f.1)
fit_at (w ∷ ws) (v ∷ vs) (suc k) f = fit_at ws vs k f.2

fit_drop : (ws vs : List ℕ) (k : ℕ) → Fit ws vs → Fit (drop k ws) (drop k vs)
fit_drop ws vs zero f = f
fit_drop [] [] (suc k) f = f
fit_drop [] (v ∷ vs) (suc k) f = absurd f
fit_drop (w ∷ ws) [] (suc k) f = absurd f
fit_drop (w ∷ ws) (v ∷ vs) (suc k) f = fit_drop ws vs k f.2

slot_inside : (l : List ℕ) (k : ℕ) → get_or l k unset ≤ 64 → k < length l
slot_inside [] k h = absurd (omega arith)
slot_inside (x ∷ l) zero h = omega arith
slot_inside (x ∷ l) (suc k) h = let j = slot_inside l k h in omega arith

slots_set : (lw lv : List ℕ) (k w v : ℕ) → SlotsFit lw lv → k < length lw → v < 2 ^ w → SlotsFit (set lw k w) (set lv k v)
slots_set lw lv k w v f h l =
    record {
      long = length-set lw k w ∙ f.long ∙ sym (length-set lv k v);
      fits = λ j q. go j (eqb j k) refl q;
    }
  where
    go : (j : ℕ) (b : Bool) → eqb j k ≡ b → get_or (set lw k w) j unset ≤ 64 → get_or (set lv k v) j 0 < 2 ^ get_or (set lw k w) j unset
    go j true e q = let m : k < length lv = omega (arith, f.long) in rw (eqb-true j k e, get_or-set_same lv k v 0 m, get_or-set_same lw k w unset h) l
    go j false e q =
        let a = get_or-set_other lw k j w unset (eqb-false j k e) in
        rw (get_or-set_other lv k j v 0 (eqb-false j k e), a) (f.fits j (rw a at q))

pub slots_start : (n : ℕ) → SlotsFit (replicate n unset) (replicate n 0)
slots_start n = record { long = length-replicate n unset ∙ sym (length-replicate n 0); fits = λ k q. absurd (none n k q) }
  where
    none : (m k : ℕ) → get_or (replicate m unset) k unset ≤ 64 → ⊥
    none zero k q = omega arith
    none (suc m) zero q = omega arith
    none (suc m) (suc k) q = none m k q

-- ---- what a rule's code may count on

no_width : {A : Type 0} (v : ℕ) → None ≡ Some v → A
no_width v h = let z : ◌≡◌ {A = ℕ} 0 1 = cc in absurd (omega arith)

width_if_law : (b : Bool) (w v : ℕ) → width_if b w ≡ Some v → v ≤ 64 → (b ≡ true) × (w ≤ 64) × (v ≡ w)
width_if_law true w v h l = let e : v ≡ w = cc in (refl, rw (← e) l, e)
width_if_law false w v h l = no_width v h

cell_fits : (memory : List ℕ) (f n a k : ℕ) → ((b : ℕ) → b < n → get_or memory (f + b) 0 < 2 ^ k) → cell_of memory f n a < 2 ^ k
unfolding cell_of
cell_fits memory f n a k h = go (ltb a n) refl
  where
    go : (b : Bool) → ltb a n ≡ b → elim b [ true ↦ get_or memory (f + a) 0 | false ↦ 0 ] < 2 ^ k
    go true e = h a (ltb-true a n e)
    go false e = pow_pos k

pick_fits : (b : Bool) (x y k : ℕ) → x < k → y < k → pick b x y < k
unfolding pick
pick_fits true x y k h l = h
pick_fits false x y k h l = l

module _ (p : List ℕ) (present : ℕ) (values memory lw lv os : List ℕ) (g : CodeGiven p present values memory) (s : SlotsFit lw lv)
    (wx wy c x y : ℕ) (lx : wx ≤ 64) (ly : wy ≤ 64) (hx : x < 2 ^ wx) (hy : y < 2 ^ wy) where
  abbrev t0 : Rules
  t0 = rules_of p present 0

  abbrev Fine : Item → ℕ → Type 0
  Fine i v = Asks values memory lv os x y i × (value_of values memory lv c x y i < 2 ^ v)

  fine : (i : Item) (v : ℕ) → width_of t0 lw wx wy i ≡ Some v → v ≤ 64 → Fine i v
  unfolding slot_width
  fine (Const w lo hi) v h l =
      let r = width_if_law (leb w 64 && ltb (lo + hi * 2 ^ 32) (2 ^ w)) w v h l in
      (tt, rw r.2 (ltb-true (lo + hi * 2 ^ 32) (2 ^ w) (and_right (leb w 64) (ltb (lo + hi * 2 ^ 32) (2 ^ w)) r.0)))
  fine (Port i) v h l = let r = width_if_law (input_ok t0 i) (port_at p i) v h l in ((g.inputs i r.0).0, rw r.2 (g.inputs i r.0).1)
  fine (Let k) v h l =
      let r = width_if_law (ltb k 16 && leb (get_or lw k unset) 64) (get_or lw k unset) v h l in
      (let j = slot_inside lw k r.1 in omega (arith, s.long), rw r.2 (s.fits k r.1))
  fine (Cell m f n) v h l =
      let r = width_if_law (memory_ok t0 m f n) (memory_width_at p m) v h l in
      let k = g.cells m f n r.0 in (k.0, rw r.2 (cell_fits memory f n y (memory_width_at p m) k.1))
  fine (Range i j) v h l =
      let r = width_if_law (ltb i wy && ltb j wy) _ v h l in
      let a = ltb-true i wy (and_left (ltb i wy) (ltb j wy) r.0) in
      let b = ltb-true j wy (and_right (ltb i wy) (ltb j wy) r.0) in
      ((omega arith, omega arith), rw r.2 (range_fits y i j))
  fine (Copies n w) v h l =
      let r = width_if_law (eqb wy w && leb n 64) (n * w) v h l in
      let e = eqb-true wy w (and_left (eqb wy w) (leb n 64) r.0) in
      let k : y < 2 ^ w = rw e at hy in
      (record { whole = r.1; holds = k }, rw r.2 (copies_fits n w y k))
  fine (Beside w) v h l =
      let r = width_if_law (eqb wy w) (wx + wy) v h l in
      let e = eqb-true wy w r.0 in
      (rw (← e) (beside_within 64 wx wy x y r.1 hx hy), rw (r.2, ← e) (beside_fits wx wy x y hx hy))
  fine (Before u w) v h l =
      let r = width_if_law (eqb wy w) _ v h l in
      let e = eqb-true wy w r.0 in
      let k : y < 2 ^ w = rw e at hy in
      (record { wide = rw (← e) ly; holds = k }, rw r.2 (unary_fits u w y k))
  fine (Between o m n) v h l =
      let r = width_if_law (eqb wx m && eqb wy n) _ v h l in
      let d = eqb-true wx m (and_left (eqb wx m) (eqb wy n) r.0) in
      let e = eqb-true wy n (and_right (eqb wx m) (eqb wy n) r.0) in
      let j : x < 2 ^ m = rw d at hx in
      let k : y < 2 ^ n = rw e at hy in
      (record { left = rw (← d) lx; right = rw (← e) ly; first = j; second = k; whole = r.1 }, rw r.2 (binary_fits o m n x y j k))
  fine Choice v h l =
      let e : v ≡ max wx wy = cc in
      (tt, rw e (chosen_fits (max wx wy) c x y (wider_lt wx (max wx wy) (omega arith) hx) (wider_lt wy (max wx wy) (omega arith) hy)))
  fine (Arm n k) v h l =
      let r = width_if_law (leb 16 k && leb (get_or lw k unset) 64) (max wx wy) v h l in
      let j = slot_inside lw k (leb-true (get_or lw k unset) 64 (and_right (leb 16 k) (leb (get_or lw k unset) 64) r.0)) in
      (omega (arith, s.long), rw r.2 (pick_fits (eqb (get_or lv k 0) n) x y (2 ^ max wx wy) (wider_lt wx (max wx wy) (omega arith) hx) (wider_lt wy (max wx wy) (omega arith) hy)))
  fine (Keep k w) v h l = no_width v h
  fine (Assign q) v h l = no_width v h
  fine (Write m f n) v h l = no_width v h
  fine Bad v h l = no_width v h

-- ---- a state fits what the check knows of it

-- what an item finds, and what it leaves
pub record Found (p : List ℕ) (present taken : ℕ) (values memory : List ℕ) (is : List Item) (i : Item) (s : State) : Type 0 where
  pub there : takes_of i ≤ length s.waits
  pub room : length s.waits ≤ 256 → length s.waits - takes_of i < 256
  pub asks : Asks values memory s.slots s.outputs (get_or s.waits 1 0) (get_or s.waits 0 0) i
  pub safe : Safe p present taken is (exec1 values memory i s)

module _ (p : List ℕ) (present taken : ℕ) (values memory : List ℕ) (g : CodeGiven p present values memory) (is : List Item) where
  abbrev t : Rules
  t = rules_of p present taken

  leaving : (i : Item) (ws lw vs lv os : List ℕ) (d : ℕ) (qs : List (Change ℕ)) → acts_of i ≡ false → Good t is (check1 t i ws lw d) → length lw ≡ 48 → StateHeld p ws lw (state vs lv os qs)
      → Found p present taken values memory is i (state vs lv os qs)
  leaving i ws lw vs lv os d qs h good lwide f =
      let o = over_good t is (takes_of i) (width_of (rules_of p present 0) lw (get_or ws 1 0) (get_or ws 0 0) i) ws lw d (rw (pushes p present taken lw d i ws h) at good) in
      let x = fit_at ws vs 1 f.fit in
      let y = fit_at ws vs 0 f.fit in
      let k = fine p present values memory lw lv os g f.slot (get_or ws 1 0) (get_or ws 0 0) (get_or vs 2 0) (get_or vs 1 0) (get_or vs 0 0) x.0 y.0 x.1 y.1 i o.0 o.1 o.3 in
      let l = fit_length ws vs f.fit in
      let j : takes_of i ≤ length vs = omega (arith, o.2) in
      record {
        there = j;
        room = λ z. omega (arith, rw (length-drop (takes_of i) ws) at o.4);
        asks = k.0;
        safe =
            subst (λ (s : State). Safe p present taken is s) (sym (leave values memory i vs lv os qs (get_or vs 1 0) (get_or vs 0 0) h j k.0)) (
              o.0 ∷ drop (takes_of i) ws,
              lw,
              d,
              o.5,
              lwide,
              record { fit = (o.3, k.1, fit_drop ws vs (takes_of i) f.fit); slot = f.slot; outs = f.outs },
            );
      }

  written_inside : (m a n : ℕ) → memory_ok t m a n ≡ true → a + n ≤ length memory
  unfolding memory_ok
  written_inside m a n h = (g.cells m a n h).0

  pub found : (i : Item) (ws lw vs lv os : List ℕ) (d : ℕ) (qs : List (Change ℕ)) → Good t is (check1 t i ws lw d) → length lw ≡ 48 → StateHeld p ws lw (state vs lv os qs)
      → Found p present taken values memory is i (state vs lv os qs)
  found (Const w lo hi) ws lw vs lv os d qs q l f = leaving (Const w lo hi) ws lw vs lv os d qs refl q l f
  found (Port i) ws lw vs lv os d qs q l f = leaving (Port i) ws lw vs lv os d qs refl q l f
  found (Let k) ws lw vs lv os d qs q l f = leaving (Let k) ws lw vs lv os d qs refl q l f
  found (Cell m a n) ws lw vs lv os d qs q l f = leaving (Cell m a n) ws lw vs lv os d qs refl q l f
  found (Range i j) ws lw vs lv os d qs q l f = leaving (Range i j) ws lw vs lv os d qs refl q l f
  found (Copies n w) ws lw vs lv os d qs q l f = leaving (Copies n w) ws lw vs lv os d qs refl q l f
  found (Beside w) ws lw vs lv os d qs q l f = leaving (Beside w) ws lw vs lv os d qs refl q l f
  found (Before u w) ws lw vs lv os d qs q l f = leaving (Before u w) ws lw vs lv os d qs refl q l f
  found (Between o m n) ws lw vs lv os d qs q l f = leaving (Between o m n) ws lw vs lv os d qs refl q l f
  found Choice ws lw vs lv os d qs q l f = leaving Choice ws lw vs lv os d qs refl q l f
  found (Arm n k) ws lw vs lv os d qs q l f = leaving (Arm n k) ws lw vs lv os d qs refl q l f
  found (Keep k w) [] lw vs lv os d qs q l f = not_broken t is q
  found (Keep k w) (u ∷ ws) lw [] lv os d qs q l f = absurd f.fit
  found (Keep k w) (u ∷ ws) lw (v ∷ vs) lv os d qs q l f =
      let a = test_good t is (keepable t lw k && leb u w && leb w 64) (check ws (set lw k w) d) q in
      let b = and_left (keepable t lw k && leb u w) (leb w 64) a.0 in
      let h = keepable_there t lw k (and_left (keepable t lw k) (leb u w) b) in
      let j = leb-true u w (and_right (keepable t lw k) (leb u w) b) in
      record {
        there = omega arith;
        room = λ z. omega arith;
        asks = omega (arith, f.slot.long);
        safe = (
          ws,
          set lw k w,
          d,
          a.1,
          length-set lw k w ∙ l,
          record { fit = f.fit.2; slot = slots_set lw lv k w v f.slot (omega arith) (wider_lt u w j f.fit.1); outs = f.outs },
        );
      }
  found (Assign n) [] lw vs lv os d qs q l f = not_broken t is q
  found (Assign n) (u ∷ ws) lw [] lv os d qs q l f = absurd f.fit
  found (Assign n) (u ∷ ws) lw (v ∷ vs) lv os d qs q l f =
      let a = test_good t is (output_ok t d n u) (check ws lw (d + 2 ^ n)) q in
      let b = output_facts t d n u a.0 in
      record {
        there = omega arith;
        room = λ z. omega arith;
        asks = omega (arith, f.outs, b.0);
        safe = (ws, lw, d + 2 ^ n, a.1, l, record { fit = f.fit.2; slot = f.slot; outs = length-set os n v ∙ f.outs });
      }
  found (Write m a n) [] lw vs lv os d qs q l f = not_broken t is q
  found (Write m a n) (u ∷ []) lw vs lv os d qs q l f = not_broken t is q
  found (Write m a n) (u ∷ z ∷ ws) lw [] lv os d qs q l f = absurd f.fit
  found (Write m a n) (u ∷ z ∷ ws) lw (v ∷ []) lv os d qs q l f = absurd f.fit.2
  found (Write m a n) (u ∷ z ∷ ws) lw (v ∷ y ∷ vs) lv os d qs q l f =
      let b = test_good t is (memory_ok t m a n && leb u (memory_width_at p m)) (check ws lw d) q in
      record {
        there = omega arith;
        room = λ z. omega arith;
        asks = written_inside m a n (and_left (memory_ok t m a n) (leb u (memory_width_at p m)) b.0);
        safe = (ws, lw, d, b.1, l, record { fit = f.fit.2.2; slot = f.slot; outs = f.outs });
      }
  found Bad ws lw vs lv os d qs q l f = not_broken t is q
