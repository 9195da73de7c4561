-- What the operations that are alike do, and the items that take nothing. Assumes nothing.
use mathlib.Core.Path.{◌≡◌, refl, sym, ap, ap₂, ◌∙◌, subst}
use mathlib.Core.Bool.{Bool, true, false, ◌&&◌}
use mathlib.Core.List.{List, [], ◌∷◌, ◌++◌, append-nil}
use Prim.Native.Nat.{ℕ, ◌+◌, ◌*◌, ◌/◌, ◌%◌, ◌^◌, ◌≤◌, ◌<◌, max}
use native.Mathlib.Omega.{arith}
use native.Mathlib.Nat.{mod-add-div', mod-eq_of_lt, div-eq_of_lt, le_trans}
use lib.Dec.{leb, ltb}
use lib.Pow.{pow_mono}
use lib.ListN.{get_or}
use borrow.Author.Tests.{leb-true, ltb-false, le-ltb}
use Rattle.language.specs.Text.{earliest}
use Rattle.language.specs.Parts.{each}
use Rattle.language.specs.Values.{plain_width, range_width}
use Rattle.language.specs.Sizes.{Extent, wide, faulty, faults_of, used}
use Rattle.words.specs.Found.{place_told}
use Rattle.plan.specs.declared.Item.TheVariants.{Const, Port, Let as Kept, Cell, Range, Copies, Arm}
use Rattle.plan.specs.Items.{unary_item, binary_item}
use Rattle.plan_of.specs.PlanOf.{constant}
use Rattle.plan_of.specs.Formed.{whole}
use Rattle.settled.specs.Form.{six, BITS, BIG, AMOUNT, PLAIN, COPIES, READ, CELL, HELD, RANGE, UNARY, BINARY, CHOICE, EITHER, ARM}
use Rattle.settled.specs.Settled.{amount}
use Rattle.std.specs.Prelude.{Some}
use Rattle.size_walk.specs.Effects.{sooner_of, has, gives_of, ends_of, tested_of, unary_wide, binary_wide, big_effect, sized_effect, plain_effect, read_effect, used_effect, copies_effect, cell_effect, range_effect, unary_effect, binary_effect, choice_effect, arm_effect, effect_of}
use Rattle.size_walk.specs.Steps.{State, seen_of, width_on, start_on, emits_of, held_of, around_of, pick, ended_of, step_of}
use Rattle.plan_of.proofs.Walks.{goes_both, goes_six, after}
use Rattle.plan_of.proofs.Left.{shape, coded, Left, tried, applied, through_1, Over1, through_2, Over2}
use Rattle.plan_of.proofs.Parts.{chooses, Over3}

-- ---- over one, two and three expressions

module _ (st : State) (q : ℕ) where
  pub copies_over : (p n : ℕ) → Over1 st q COPIES p n 0 0 0 p p (λ w. leb (n * w) 64) (λ w. n * w) (λ w. Some (Copies n w))
  unfolding through_1 applied step_of effect_of seen_of copies_effect around_of pick ended_of held_of
  copies_over p n = record { does = λ x l k br sp. refl }

  pub cell_over : (p m f z w : ℕ) → Over1 st q CELL p m f z w 0 p (λ x. true) (λ x. w) (λ x. Some (Cell m f z))
  unfolding through_1 applied step_of effect_of seen_of cell_effect tested_of around_of pick ended_of held_of
  cell_over p m f z w = record { does = λ x l k br sp. refl }

  pub range_over : (p i j : ℕ) → Over1 st q RANGE p i j 0 0 p q (λ x. ltb i x && ltb j x) (λ x. range_width i j) (λ x. Some (Range i j))
  unfolding through_1 applied step_of effect_of seen_of range_effect around_of pick ended_of held_of
  range_over p i j = record { does = λ x l k br sp. refl }

  pub unary_over : (p o : ℕ) → Over1 st q UNARY p o 0 0 0 0 p (λ x. true) (λ x. unary_wide o x) (λ x. Some (unary_item o x))
  unfolding through_1 applied step_of effect_of seen_of unary_effect tested_of around_of pick ended_of held_of
  unary_over p o = record { does = λ x l k br sp. refl }

  module _ (s : ℕ) where
    pub binary_over : (o : ℕ) → Over2 st q s BINARY 0 o 0 0 0 q q (λ x y. has (binary_wide o x y)) (λ x y. binary_wide o x y) (λ x y. Some (binary_item o x y))
    unfolding through_2 applied step_of effect_of seen_of binary_effect around_of pick ended_of held_of
    binary_over o = record { does = λ x y k c0 br0 sp0 l h br sp. refl }

    pub arm_over : (p n : ℕ) → Over2 st q s ARM p n 0 0 0 0 p (λ x y. true) (λ x y. max x y) (λ x y. Some (Arm n (15 + st.cases)))
    unfolding through_2 applied step_of effect_of seen_of arm_effect tested_of around_of pick ended_of held_of
    arm_over p n = record { does = λ x y k c0 br0 sp0 l h br sp. refl }

    module _ (t : ℕ) where
      pub choice_over : Over3 st q s t 0 CHOICE q
      unfolding chooses applied step_of effect_of seen_of choice_effect around_of pick ended_of held_of
      choice_over = record { does = λ c x y i j l k0 k1 k b0 s0 b1 s1 br sp. refl }

      pub either_over : (p : ℕ) → Over3 st q s t p EITHER p
      unfolding chooses applied step_of effect_of seen_of choice_effect around_of pick ended_of held_of
      either_over p = record { does = λ c x y i j l k0 k1 k b0 s0 b1 s1 br sp. refl }

-- ---- the items that take nothing

module _ (st : State) (p : ℕ) where
  pub left_plain : (v : ℕ) → v ≤ 4_294_967_295 → Left whole (wide (plain_width v)) p (six PLAIN p v 0 0 0) (constant (plain_width v) v) st
  unfolding step_of effect_of seen_of plain_effect gives_of width_on start_on emits_of held_of around_of pick ended_of sooner_of earliest place_told shape faults_of constant each
  left_plain v h =
      let l : v < 2 ^ 32 = omega arith in
      record {
        c = st.code ++ (0 ∷ plain_width v ∷ v ∷ 0 ∷ []);
        br = st.breadth;
        sp = st.start;
        goes = goes_six PLAIN p v 0 0 0 refl;
        code = λ y. ap₂ (λ (a b : ℕ). st.code ++ (0 ∷ plain_width v ∷ a ∷ b ∷ [])) (sym (mod-eq_of_lt l)) (sym (div-eq_of_lt l));
      }

  pub left_port : (k w : ℕ) → Left whole (wide w) p (six READ p k 0 0 w) (Port k ∷ []) st
  unfolding step_of effect_of seen_of read_effect gives_of width_on start_on emits_of held_of around_of pick ended_of sooner_of earliest place_told shape faults_of each
  left_port k w = record { c = st.code ++ (1 ∷ k ∷ 0 ∷ 0 ∷ []); br = st.breadth; sp = st.start; goes = goes_six READ p k 0 0 w refl; code = λ y. refl }

  pub left_held : (k : ℕ) (x : Extent) → get_or st.slots k 0 ≡ shape whole x → Left whole (used x) p (six HELD p k 0 0 0) (Kept k ∷ []) st
  unfolding step_of effect_of seen_of used_effect gives_of width_on start_on emits_of held_of around_of pick ended_of sooner_of earliest place_told shape faults_of used each
  left_held k (wide w) e =
      record { c = st.code ++ (2 ∷ k ∷ 0 ∷ 0 ∷ []); br = st.breadth; sp = st.start; goes = goes_six HELD p k 0 0 0 (ap (λ (n : ℕ). after st n p [] (st.code ++ (2 ∷ k ∷ 0 ∷ 0 ∷ [])) st.breadth st.start) e); code = λ y. refl }
  left_held k (faulty l) e =
      record { c = st.code ++ (2 ∷ k ∷ 0 ∷ 0 ∷ []); br = st.breadth; sp = st.start; goes = goes_six HELD p k 0 0 0 (ap (λ (n : ℕ). after st n p [] (st.code ++ (2 ∷ k ∷ 0 ∷ 0 ∷ [])) st.breadth st.start) e); code = λ y. absurd y }

  -- a sized constant: its width and then its digits
  abbrev pub sized_extent : ℕ → ℕ → Extent
  sized_extent w v = elim (leb w 64) [ true ↦ elim (ltb v (2 ^ w)) [ true ↦ wide w | false ↦ faulty (p ∷ []) ] | false ↦ faulty (p ∷ []) ]

  both_tests : (a b : Bool) (w : ℕ) → tried (a && b) w p ≡ elim a [ true ↦ elim b [ true ↦ wide w | false ↦ faulty (p ∷ []) ] | false ↦ faulty (p ∷ []) ]
  both_tests true true w = refl
  both_tests true false w = refl
  both_tests false b w = refl

  too_big : (w v : ℕ) → 2 ^ 64 ≤ v → faulty (p ∷ []) ≡ sized_extent w v
  too_big w v h = go (leb w 64) refl
    where
      go : (b : Bool) → leb w 64 ≡ b → faulty (p ∷ []) ≡ elim b [ true ↦ elim (ltb v (2 ^ w)) [ true ↦ wide w | false ↦ faulty (p ∷ []) ] | false ↦ faulty (p ∷ []) ]
      go true e = ap (λ (b : Bool). elim b [ true ↦ wide w | false ↦ faulty (p ∷ []) ]) (sym (le-ltb v (2 ^ w) (le_trans (pow_mono (leb-true w 64 e)) h)))
      go false e = refl

  -- the state after the width
  abbrev widened : ℕ → State
  widened w =
      record {
        widths = st.widths;
        starts = st.starts;
        slots = st.slots;
        code = st.code ++ [];
        lengths = st.lengths;
        first = st.first;
        breadth = w;
        start = p;
        cases = st.cases;
        rule = st.rule;
      }

  bits_does : (w : ℕ) → step_of st BITS p w 0 0 0 ≡ widened w
  unfolding step_of effect_of seen_of ends_of width_on start_on emits_of held_of around_of pick ended_of sooner_of
  bits_does w = refl

  amount_does : (w q lo hi : ℕ) → step_of (widened w) AMOUNT q lo hi 0 0 ≡ applied (widened w) (tested_of (leb w 64 && ltb (lo + hi * 2 ^ 32) (2 ^ w)) 0 w p p (Some (Const w lo hi)))
  unfolding applied step_of effect_of seen_of sized_effect has around_of pick ended_of held_of
  amount_does w q lo hi = refl

  amount_tried : (t : Bool) (w lo hi : ℕ) → applied (widened w) (tested_of t 0 w p p (Some (Const w lo hi))) ≡ after st (shape whole (tried t w p)) p (faults_of (tried t w p)) ((st.code ++ []) ++ (0 ∷ w ∷ lo ∷ hi ∷ [])) w p
  unfolding applied tested_of gives_of width_on start_on emits_of sooner_of earliest place_told shape faults_of
  amount_tried true w lo hi = refl
  amount_tried false w lo hi = refl

  big_does : (w q : ℕ) → step_of (widened w) BIG q 0 0 0 0 ≡ after st 99 p (p ∷ []) ((st.code ++ []) ++ []) w p
  unfolding step_of effect_of seen_of big_effect tested_of gives_of width_on start_on emits_of sooner_of earliest place_told around_of pick ended_of held_of
  big_does w q = refl

  constant_code : (w v : ℕ) → st.code ++ (0 ∷ w ∷ (v % 2 ^ 32) ∷ (v / 2 ^ 32) ∷ []) ≡ st.code ++ coded (constant w v)
  unfolding constant each
  constant_code w v = refl

  big_is : (w q : ℕ) → step_of (widened w) BIG q 0 0 0 0 ≡ after st (shape whole (faulty (p ∷ []))) p (faults_of (faulty (p ∷ []))) ((st.code ++ []) ++ []) w p
  unfolding shape faults_of
  big_is w q = big_does w q

  pub left_sized : (w v q : ℕ) → Left whole (sized_extent w v) p (six BITS p w 0 0 0 ++ amount q v) (constant w v) st
  unfolding amount
  left_sized w v q = go (ltb v (2 ^ 64)) refl
    where
      halves : v % 2 ^ 32 + v / 2 ^ 32 * 2 ^ 32 ≡ v
      halves = mod-add-div' v (2 ^ 32)

      go : (b : Bool) → ltb v (2 ^ 64) ≡ b → Left whole (sized_extent w v) p (six BITS p w 0 0 0 ++ elim b [ true ↦ six AMOUNT q (v % 2 ^ 32) (v / 2 ^ 32) 0 0 | false ↦ six BIG q 0 0 0 0 ]) (constant w v) st
      go true e =
          subst (λ (x : Extent). Left whole x p (six BITS p w 0 0 0 ++ six AMOUNT q (v % 2 ^ 32) (v / 2 ^ 32) 0 0) (constant w v) st) (both_tests (leb w 64) (ltb v (2 ^ w)) w)
          (record {
            c = (st.code ++ []) ++ (0 ∷ w ∷ (v % 2 ^ 32) ∷ (v / 2 ^ 32) ∷ []);
            br = w;
            sp = p;
            goes = goes_both (goes_six BITS p w 0 0 0 (bits_does w)) (goes_six AMOUNT q (v % 2 ^ 32) (v / 2 ^ 32) 0 0 (amount_does w q (v % 2 ^ 32) (v / 2 ^ 32)
                ∙ ap (λ (n : ℕ). applied (widened w) (tested_of (leb w 64 && ltb n (2 ^ w)) 0 w p p (Some (Const w (v % 2 ^ 32) (v / 2 ^ 32))))) halves
                ∙ amount_tried (leb w 64 && ltb v (2 ^ w)) w (v % 2 ^ 32) (v / 2 ^ 32)));
            code = λ y. ap (λ (l : List ℕ). l ++ (0 ∷ w ∷ (v % 2 ^ 32) ∷ (v / 2 ^ 32) ∷ [])) (append-nil st.code) ∙ constant_code w v;
          })
      go false e =
          subst (λ (x : Extent). Left whole x p (six BITS p w 0 0 0 ++ six BIG q 0 0 0 0) (constant w v) st) (too_big w v (ltb-false v (2 ^ 64) e))
          (record { c = (st.code ++ []) ++ []; br = w; sp = p; goes = goes_both (goes_six BITS p w 0 0 0 (bits_does w)) (goes_six BIG q 0 0 0 0 (big_is w q)); code = λ y. absurd y })
