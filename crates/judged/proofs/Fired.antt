-- A rule of a sound plan that fires can be run: it was checked, and what it reads fits. Assumes nothing.
use Prim.Native.Nat.{ℕ, zero, suc, ◌+◌, ◌^◌, ◌≤◌, ◌<◌}
use mathlib.Core.Path.{◌≡◌, refl, sym, ap, ap₂, ◌∙◌, subst}
use mathlib.Core.List.{List, [], ◌∷◌}
use mathlib.Core.Bool.{Bool, true, false, ◌&&◌, ◌||◌, false≢true}
use native.Mathlib.Omega.{arith}
use lib.Dec.{eqb, leb, ltb}
use lib.ListN.{length, get_or, take}
use lib.Seq.{get_or-take}
use borrow.Author.Tests.{ltb-true, leb-true, eqb-true, eqb-false, ne_eqb, lt-leb}
use Rattle.language.specs.Limits.{limits}
use Rattle.language.specs.Values.{bit_of}
use Rattle.plan.specs.Items.{decode_all}
use Rattle.plan.specs.Layout.{port_count, port_at, memory_count, memory_width_at, memory_size_at, cells_before, group_count, group_at, rules_before, present_at, absent_at, code_at}
use Rattle.plan.specs.Sound.{input_ok, memory_ok, sections_ok, Ended, ended, unended, rule_check, joined, group_check, groups_check, sound_of}
use Rattle.plan.specs.Sound.{rules_of}
use Rattle.plan.proofs.Tests.{and_left, and_right}
use Rattle.plan_sections.proofs.Parts.{ports_few, group_rules, rule_whole, rule_inside}
use Rattle.soundness.proofs.Vals.{vals_kept, vals_few}
use Rattle.judged.specs.Groups.{bits_agree, matches_of, matching, Fired, fired, unfired, firing}
use Rattle.judged.specs.Tests.{all_below, input_fits, memory_fits, fitting}
use Rattle.machine.specs.Safety.{CodeGiven}
use Rattle.machine.specs.Fires.{Fires}
use Rattle.judged.specs.declared.Refusal.TheVariants.{Unfit, Unmatched, Ambiguous}
use Rattle.judged.specs.Answers.{number_of}
use Rattle.judged.specs.Judged.{judged}
use Rattle.judged.proofs.Firing.{cells_within}

-- ---- tests that held

below_at : (p : List ℕ) (n : ℕ) (f : ℕ → Bool) (k : ℕ) → all_below p n f ≡ true → k < n → f k ≡ true
unfolding all_below
below_at p zero f k h l = absurd (omega arith)
below_at p (suc n) f k h l = go (below_at p n f k (and_left (all_below p n f) (f n) h)) (eqb k n) refl
  where
    go : (k < n → f k ≡ true) → (b : Bool) → eqb k n ≡ b → f k ≡ true
    go r true e = rw (eqb-true k n e) (and_right (all_below p n f) (f n) h)
    go r false e = let q = eqb-false k n e in r (omega (arith, q))

or_right : (a b : Bool) → (a || b) ≡ true → a ≡ false → b ≡ true
or_right true b h e = absurd (false≢true (sym e))
or_right false b h e = h

agree_at : (p : List ℕ) (mask r k i : ℕ) → bits_agree p mask r k ≡ true → i < k → (eqb (bit_of (present_at p r) i) 0 || eqb (bit_of mask i) 1) ≡ true
unfolding bits_agree
agree_at p mask r zero i h l = absurd (omega arith)
agree_at p mask r (suc k) i h l = go (agree_at p mask r k i (and_left (bits_agree p mask r k) _ first)) (eqb i k) refl
  where
    first : (bits_agree p mask r k && (eqb (bit_of (present_at p r) k) 0 || eqb (bit_of mask k) 1)) ≡ true
    first = and_left (bits_agree p mask r k && (eqb (bit_of (present_at p r) k) 0 || eqb (bit_of mask k) 1)) (eqb (bit_of (absent_at p r) k) 0 || eqb (bit_of mask k) 0) h

    go : (i < k → (eqb (bit_of (present_at p r) i) 0 || eqb (bit_of mask i) 1) ≡ true) → (b : Bool) → eqb i k ≡ b → (eqb (bit_of (present_at p r) i) 0 || eqb (bit_of mask i) 1) ≡ true
    go f true e = rw (eqb-true i k e) (and_right (bits_agree p mask r k) (eqb (bit_of (present_at p r) k) 0 || eqb (bit_of mask k) 1) first)
    go f false e = let q = eqb-false i k e in f (omega (arith, q))

module _ (p : List ℕ) (mask : ℕ) (values memory : List ℕ) (hs : sections_ok p ≡ true) (hf : fitting p mask values memory ≡ true)
    (lv : length values ≡ port_count p) (lm : length memory ≡ cells_before p (memory_count p)) where
  inputs_part : all_below p (port_count p) (input_fits p mask values) ≡ true
  unfolding fitting
  inputs_part =
      and_right (ltb mask (2 ^ port_count p)) (all_below p (port_count p) (input_fits p mask values))
      (and_left (ltb mask (2 ^ port_count p) && all_below p (port_count p) (input_fits p mask values)) (all_below p (memory_count p) (memory_fits p memory)) hf)

  cells_part : all_below p (memory_count p) (memory_fits p memory) ≡ true
  unfolding fitting
  cells_part = and_right (ltb mask (2 ^ port_count p) && all_below p (port_count p) (input_fits p mask values)) (all_below p (memory_count p) (memory_fits p memory)) hf

  -- a present input fits its width
  input_fits_law : (r i : ℕ) → matches_of p mask r ≡ true → input_ok (rules_of p (present_at p r) 0) i ≡ true → (i < length values) × (get_or values i 0 < 2 ^ port_at p i)
  unfolding matches_of input_ok input_fits
  input_fits_law r i hm ho =
      let a = and_left (ltb i (port_count p) && leb (port_at p i) 32) (eqb (bit_of (present_at p r) i) 1) ho in
      let l = ltb-true i (port_count p) (and_left (ltb i (port_count p)) (leb (port_at p i) 32) a) in
      let w = leb-true (port_at p i) 32 (and_right (ltb i (port_count p)) (leb (port_at p i) 32) a) in
      let b = eqb-true (bit_of (present_at p r) i) 1 (and_right (ltb i (port_count p) && leb (port_at p i) 32) (eqb (bit_of (present_at p r) i) 1) ho) in
      let few = ports_few p hs in
      let m = eqb-true (bit_of mask i) 1 (or_right (eqb (bit_of (present_at p r) i) 0) (eqb (bit_of mask i) 1) (agree_at p mask r 32 i hm (omega arith)) (ne_eqb (bit_of (present_at p r) i) 0 (λ z. omega arith))) in
      let f = below_at p (port_count p) (input_fits p mask values) i inputs_part l in
      let g = or_right (eqb (bit_of mask i) 0 || leb 256 (port_at p i)) (ltb (get_or values i 0) (2 ^ port_at p i)) f (ap₂ ◌||◌ (ne_eqb (bit_of mask i) 0 (λ z. omega arith)) (lt-leb 256 (port_at p i) (omega arith))) in
      (omega arith, ltb-true (get_or values i 0) (2 ^ port_at p i) g)

  -- a cell fits its memory's width
  cell_fits : (present m f n : ℕ) → memory_ok (rules_of p present 0) m f n ≡ true → (f + n ≤ length memory) × ((a : ℕ) → a < n → get_or memory (f + a) 0 < 2 ^ memory_width_at p m)
  unfolding memory_ok memory_fits
  cell_fits present m f n h =
      let a = and_left (ltb m (memory_count p) && eqb f (cells_before p m)) (eqb n (memory_size_at p m)) h in
      let l = ltb-true m (memory_count p) (and_left (ltb m (memory_count p)) (eqb f (cells_before p m)) a) in
      let d = eqb-true f (cells_before p m) (and_right (ltb m (memory_count p)) (eqb f (cells_before p m)) a) in
      let e = eqb-true n (memory_size_at p m) (and_right (ltb m (memory_count p) && eqb f (cells_before p m)) (eqb n (memory_size_at p m)) h) in
      let w = cells_within p m (memory_count p) l in
      let g = below_at p (memory_count p) (memory_fits p memory) m cells_part l in (
        omega arith,
        λ i k. rw d (ltb-true (get_or memory (cells_before p m + i) 0) (2 ^ memory_width_at p m)
            (below_at p (memory_size_at p m) (λ j. ltb (get_or memory (cells_before p m + j) 0) (2 ^ memory_width_at p m)) i g (rw e at k))),
      )

  rule_given : (r : ℕ) → matches_of p mask r ≡ true → CodeGiven p (present_at p r) values memory
  rule_given r h = record { ports = lv; inputs = λ i. input_fits_law r i h; cells = cell_fits (present_at p r) }

-- ---- which rules fire

match_in : (p : List ℕ) (mask r n q : ℕ) (l : List ℕ) → matching p mask r n ≡ q ∷ l → (r ≤ q) × (q < r + n) × (matches_of p mask q ≡ true)
unfolding matching
match_in p mask r zero q l h = let z : ◌≡◌ {A = ℕ} 0 1 = cc h in absurd (omega arith)
match_in p mask r (suc n) q l h = go (matches_of p mask r) refl h (match_in p mask (suc r) n q l)
  where
    go : (b : Bool) → matches_of p mask r ≡ b → elim b [ true ↦ r ∷ matching p mask (suc r) n | false ↦ matching p mask (suc r) n ] ≡ q ∷ l
        → (matching p mask (suc r) n ≡ q ∷ l → (suc r ≤ q) × (q < suc r + n) × (matches_of p mask q ≡ true)) → (r ≤ q) × (q < r + suc n) × (matches_of p mask q ≡ true)
    go true e k f = let z : r ≡ q = cc k in (omega arith, omega arith, rw (← z) e)
    go false e k f = let a = f k in (omega arith, omega arith, a.2)

abbrev In : List ℕ → ℕ → ℕ → ℕ → Type 0
In p mask g q = (rules_before p g ≤ q) × (q < rules_before p g + group_at p g) × (matches_of p mask q ≡ true)

fired_in : (p : List ℕ) (mask g n : ℕ) (l : List ℕ) → firing p mask g n ≡ fired l → (j : ℕ) → j < n → In p mask (g + j) (get_or l j 0)
unfolding firing
fired_in p mask g zero l h j k = absurd (omega arith)
fired_in p mask g (suc n) l h j k = go (matching p mask (rules_before p g) (group_at p g)) refl h (fired_in p mask (suc g) n) j k
  where
    rest : (q : ℕ) (f : Fired p) → firing p mask (suc g) n ≡ f → ◌≡◌ {A = Fired p} (elim f [ fired x ↦ fired (q ∷ x) | unfired y ↦ unfired y ]) (fired l) → matching p mask (rules_before p g) (group_at p g) ≡ q ∷ []
        → ((x : List ℕ) → firing p mask (suc g) n ≡ fired x → (i : ℕ) → i < n → In p mask (suc g + i) (get_or x i 0)) → (i : ℕ) → i < suc n → In p mask (g + i) (get_or l i 0)
    rest q (fired x) e d m f zero u =
        let z : l ≡ q ∷ x = cc d in let w : g + 0 ≡ g = omega arith in rw (w, z) (match_in p mask (rules_before p g) (group_at p g) q [] m)
    rest q (fired x) e d m f (suc i) u =
        let z : l ≡ q ∷ x = cc d in let w : g + suc i ≡ suc g + i = omega arith in rw (w, z) (f x e i (omega arith))
    rest q (unfired y) e d m f i u = let z : ◌≡◌ {A = ℕ} 0 1 = cc d in absurd (omega arith)

    go : (x : List ℕ) → matching p mask (rules_before p g) (group_at p g) ≡ x
        → ◌≡◌ {A = Fired p} (elim x [ [] ↦ unfired (number_of Unmatched) | q ∷ [] ↦ elim (firing p mask (suc g) n) [ fired y ↦ fired (q ∷ y) | unfired y ↦ unfired y ] | q ∷ z ∷ y ↦ unfired (number_of Ambiguous) ]) (fired l)
        → ((x : List ℕ) → firing p mask (suc g) n ≡ fired x → (i : ℕ) → i < n → In p mask (suc g + i) (get_or x i 0)) → (i : ℕ) → i < suc n → In p mask (g + i) (get_or l i 0)
    go [] e d f i u = let z : ◌≡◌ {A = ℕ} 0 1 = cc d in absurd (omega arith)
    go (q ∷ []) e d f i u = rest q (firing p mask (suc g) n) refl d e f i u
    go (q ∷ z ∷ y) e d f i u = let w : ◌≡◌ {A = ℕ} 0 1 = cc d in absurd (omega arith)

-- ---- each of them was checked

group_checked : (p : List ℕ) (taken mine r n d : ℕ) → group_check p taken mine r n ≡ ended d → (q : ℕ) → r ≤ q → q < r + n → (e : ℕ) × (rule_check p taken q ≡ ended e)
unfolding group_check
group_checked p taken mine r zero d h q a b = absurd (omega arith)
group_checked p taken mine r (suc n) d h q a b = go (rule_check p taken r) refl h (λ m k. group_checked p taken m (suc r) n d k q)
  where
    go : (x : Ended) → rule_check p taken r ≡ x → elim x [ ended y ↦ group_check p taken (joined p mine y) (suc r) n | unended ↦ unended ] ≡ ended d
        → ((m : ℕ) → group_check p taken m (suc r) n ≡ ended d → suc r ≤ q → q < suc r + n → (e : ℕ) × (rule_check p taken q ≡ ended e)) → (e : ℕ) × (rule_check p taken q ≡ ended e)
    go (ended y) e k f = at (eqb q r) refl
      where
        at : (c : Bool) → eqb q r ≡ c → (e : ℕ) × (rule_check p taken q ≡ ended e)
        at true z = (y, rw (eqb-true q r z) e)
        at false z = let w = eqb-false q r z in f (joined p mine y) k (omega (arith, w)) (omega arith)
    go unended e k f = let z : ◌≡◌ {A = ℕ} 0 1 = cc k in absurd (omega arith)

groups_checked : (p : List ℕ) (taken g n : ℕ) → groups_check p taken g n ≡ true → (j : ℕ) → j < n
    → (t : ℕ) × (d : ℕ) × (group_check p t t (rules_before p (g + j)) (group_at p (g + j)) ≡ ended d)
unfolding groups_check
groups_checked p taken g zero h j l = absurd (omega arith)
groups_checked p taken g (suc n) h j l = go (group_check p taken taken (rules_before p g) (group_at p g)) refl h (λ t k. groups_checked p t (suc g) n k) j l
  where
    go : (x : Ended) → group_check p taken taken (rules_before p g) (group_at p g) ≡ x → elim x [ ended y ↦ groups_check p y (suc g) n | unended ↦ false ] ≡ true
        → ((t : ℕ) → groups_check p t (suc g) n ≡ true → (i : ℕ) → i < n → (u : ℕ) × (d : ℕ) × (group_check p u u (rules_before p (suc g + i)) (group_at p (suc g + i)) ≡ ended d))
        → (i : ℕ) → i < suc n → (u : ℕ) × (d : ℕ) × (group_check p u u (rules_before p (g + i)) (group_at p (g + i)) ≡ ended d)
    go (ended y) e k f zero u = let w : g + 0 ≡ g = omega arith in (taken, y, rw w e)
    go (ended y) e k f (suc i) u = let w : g + suc i ≡ suc g + i = omega arith in rw w (f y k i (omega arith))
    go unended e k f i u = absurd (false≢true k)

-- ---- together

pub sound_sections : (p : List ℕ) → sound_of p ≡ true → (sections_ok p ≡ true) × (groups_check p 0 0 (group_count p) ≡ true)
unfolding sound_of
sound_sections p h = go (sections_ok p) refl h
  where
    go : (b : Bool) → sections_ok p ≡ b → elim b [ true ↦ groups_check p 0 0 (group_count p) | false ↦ false ] ≡ true → (sections_ok p ≡ true) × (groups_check p 0 0 (group_count p) ≡ true)
    go true e k = (e, k)
    go false e k = absurd (false≢true k)

-- "`val`s 16 in a rule": in each rule of each group
pub sound_vals : (p : List ℕ) → sound_of p ≡ true → (j k : ℕ) → j < group_count p → k < group_at p j → vals_kept (decode_all (code_at p (rules_before p j + k))) ≤ limits.vals
sound_vals p h j k a b =
    let c = groups_checked p 0 0 (group_count p) (sound_sections p h).1 j a in
    let z : 0 + j ≡ j = omega arith in
    let d = group_checked p c.0 c.0 (rules_before p j) (group_at p j) c.1 (rw z at c.2) (rules_before p j + k) (omega arith) (omega arith) in
    vals_few p c.0 (rules_before p j + k) d.0 d.1

pub fires : (p : List ℕ) (mask : ℕ) (values memory l : List ℕ) → sound_of p ≡ true → fitting p mask values memory ≡ true → length values ≡ port_count p → length memory ≡ cells_before p (memory_count p)
    → firing p mask 0 (group_count p) ≡ fired l → (j : ℕ) → j < group_count p → Fires p values memory (get_or l j 0)
fires p mask values memory l hs hf lv lm h j k =
    let s = sound_sections p hs in
    let i = fired_in p mask 0 (group_count p) l h j k in
    let c = groups_checked p 0 0 (group_count p) s.1 j k in
    let z : 0 + j ≡ j = omega arith in
    let r = group_rules p s.0 j k in
    let i0 = rw z at i.0 in
    let i1 = rw z at i.1 in
    let d = group_checked p c.0 c.0 (rules_before p j) (group_at p j) c.1 (rw z at c.2) (get_or l j 0) i0 i1 in
    record {
      inside = rule_inside p s.0 (get_or l j 0) (omega arith);
      whole = rule_whole p s.0 (get_or l j 0) (omega arith);
      taken = c.0;
      assigned = d.0;
      checked = d.1;
      given = rule_given p mask values memory s.0 hf lv lm (get_or l j 0) i.2;
    }

judged_fits : (p : List ℕ) (mask : ℕ) (values memory l : List ℕ) → fired l ≡ judged p mask values memory → (fitting p mask values memory ≡ true) × (firing p mask 0 (group_count p) ≡ fired l)
unfolding judged
judged_fits p mask values memory l e = go (fitting p mask values memory) refl e
  where
    go : (b : Bool) → fitting p mask values memory ≡ b → ◌≡◌ {A = Fired p} (fired l) (elim b [ true ↦ firing p mask 0 (group_count p) | false ↦ unfired (number_of Unfit) ])
        → (fitting p mask values memory ≡ true) × (firing p mask 0 (group_count p) ≡ fired l)
    go true d k = (d, sym k)
    go false d k = let z : ◌≡◌ {A = ℕ} 0 1 = cc k in absurd (omega arith)

abbrev by_fit : (p : List ℕ) → ℕ → Bool → Fired p
by_fit p mask b = elim b [ true ↦ firing p mask 0 (group_count p) | false ↦ unfired (number_of Unfit) ]

pub judged_unfit : (p : List ℕ) (mask : ℕ) (values memory : List ℕ) → fitting p mask values memory ≡ false → unfired (number_of Unfit) ≡ judged p mask values memory
unfolding judged
judged_unfit p mask values memory h = sym (ap (by_fit p mask) h)

pub judged_fit : (p : List ℕ) (mask : ℕ) (values memory : List ℕ) {f : Fired p} → fitting p mask values memory ≡ true → f ≡ firing p mask 0 (group_count p) → f ≡ judged p mask values memory
unfolding judged
judged_fit p mask values memory h e = e ∙ sym (ap (by_fit p mask) h)

-- the rules of a cycle that is judged to go on
pub judged_fires : (p : List ℕ) (mask : ℕ) (values memory l : List ℕ) → sound_of p ≡ true → length values ≡ port_count p → length memory ≡ cells_before p (memory_count p)
    → fired (take (group_count p) l) ≡ judged p mask values memory → (j : ℕ) → j < group_count p → Fires p values memory (get_or l j 0)
judged_fires p mask values memory l hs lv lm e j k =
    let f = judged_fits p mask values memory (take (group_count p) l) e in
    subst (λ (r : ℕ). Fires p values memory r) (get_or-take (group_count p) l j 0 k) (fires p mask values memory (take (group_count p) l) hs f.0 lv lm f.1 j k)
