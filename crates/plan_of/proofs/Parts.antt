-- The items that are not alike: parentheses, the parts of a concatenation, choices and cases. Assumes nothing.
use mathlib.Core.Path.{◌≡◌, refl, sym, ap, ap₂, ◌∙◌, subst}
use mathlib.Core.Bool.{Bool, true, false, not, ◌&&◌, ◌||◌, and-false}
use mathlib.Core.List.{List, [], ◌∷◌, ◌++◌, append_assoc, append-nil}
use Prim.Native.Nat.{ℕ, ◌+◌, ◌-◌, ◌≤◌, min, max}
use native.Mathlib.Omega.{arith}
use native.Mathlib.Decide.{dec_le}
use lib.Dec.{eqb, leb}
use lib.ListN.{drop}
use borrow.Author.Tests.{le-leb, lt-leb, ne_eqb}
use Rattle.language.specs.Text.{earliest}
use Rattle.language.specs.Parts.{each}
use Rattle.language.specs.Sizes.{Extent, wide, faulty, one_part, two_parts, faults_of, limited}
use Rattle.words.specs.Found.{Place}
use Rattle.std.specs.Prelude.{Some, None}
use Rattle.words.specs.Found.{place_told}
use Rattle.plan.specs.declared.Item.{Item}
use Rattle.plan.specs.declared.Item.TheVariants.{Beside, Choice, Keep}
use Rattle.plan.specs.Items.{encode}
use Rattle.plan_of.specs.PlanOf.{width_of}
use Rattle.plan_of.specs.Formed.{Kind, whole, parts}
use Rattle.plan_of.proofs.Extents.{chosen_extent}
use Rattle.settled.specs.Form.{six, START, JOINED, BESIDE, SELECT, SELECTED}
use Rattle.size_walk.specs.declared.Effect.{Effect}
use Rattle.size_walk.specs.Effects.{sooner_of, has, gives_of, faulty_of, tested_of, through_of, begun_effect, joined_effect, beside_effect, select_effect, selected_effect, ends_of, effect_of}
use Rattle.size_walk.specs.Steps.{State, seen_of, width_on, start_on, emits_of, held_of, around_of, pick, ended_of, step_of}
use Rattle.plan_of.proofs.Firsts.{told, told_after}
use Rattle.plan_of.proofs.Walks.{Goes, goes_both, goes_six, after}
use Rattle.plan_of.proofs.Left.{shape, Small, coded, Left, tried, applied, two, through_2, some_2, none_2, both_code, each_both}

-- ---- the same expression, which begins before

pub left_begun : (st : State) (k : Kind) (x : Extent) (q p : ℕ) (items : List ℕ) (is : List Item) → Left k x q items is st → Left k x p (items ++ six START p 0 0 0 0) is st
unfolding step_of effect_of seen_of begun_effect gives_of width_on start_on emits_of held_of around_of pick ended_of sooner_of
left_begun st k x q p items is r =
    record {
      c = r.c ++ [];
      br = r.br;
      sp = r.sp;
      goes = goes_both r.goes (goes_six START p 0 0 0 0 (begun (shape k x) (faults_of x) r.c r.br r.sp));
      code = λ y. append-nil r.c ∙ r.code y;
    }
  where
    begun : (w : ℕ) (l c : List ℕ) (br sp : ℕ) → step_of (after st w q l c br sp) START p 0 0 0 0 ≡ after st w p l (c ++ []) br sp
    begun w l c br sp = refl

-- ---- a concatenation

-- a whole expression is a part
pub left_part : (st : State) (x : Extent) (p : ℕ) (items : List ℕ) (is : List Item) → Small x → Left whole x p items is st → Left parts x p items is st
unfolding shape faults_of
left_part st (wide w) p items is h r =
    let e : w ≡ min w 65 = omega arith in
    record { c = r.c; br = r.br; sp = r.sp; goes = subst (λ (n : ℕ). Goes st items (after st n p [] r.c r.br r.sp)) e r.goes; code = r.code }
left_part st (faulty l) p items is h r = record { c = r.c; br = r.br; sp = r.sp; goes = r.goes; code = r.code }

module _ (st : State) (q p : ℕ) (items : List ℕ) (is : List Item) where
  unfoldable joins : (b t : Bool) (w : ℕ) (l c : List ℕ) (br sp : ℕ) → State
  joins b t w l c br sp = applied (after st w q l c br sp) (through_of b 1 p None (tested_of t 1 w p p None))

  joined_does : (w : ℕ) (l c : List ℕ) (br sp : ℕ) → step_of (after st w q l c br sp) JOINED p 0 0 0 0 ≡ joins (not (eqb w 99)) (leb w 64) w l c br sp
  unfolding joins applied step_of effect_of seen_of joined_effect has through_of around_of pick ended_of held_of
  joined_does w l c br sp = refl

  joined_tried : (b : Bool) (w : ℕ) (c : List ℕ) (br sp : ℕ) → joins true b w [] c br sp ≡ after st (shape whole (tried b w p)) p (faults_of (tried b w p)) (c ++ []) br sp
  unfolding joins applied emits_of through_of tested_of gives_of width_on start_on sooner_of shape faults_of earliest place_told
  joined_tried true w c br sp = refl
  joined_tried false w c br sp = refl

  -- at most 65 tells whether it is at most 64
  limited_least : (w : ℕ) → tried (leb (min w 65) 64) (min w 65) p ≡ limited p w
  unfolding limited
  limited_least w = go (dec_le w 64)
    where
      go : Dec (w ≤ 64) → tried (leb (min w 65) 64) (min w 65) p ≡ tried (leb w 64) w p
      go (yes h) = let e : min w 65 ≡ w = omega arith in ap (λ (n : ℕ). tried (leb n 64) n p) e
      go (no h) = let e : min w 65 ≡ 65 = omega arith in ap (λ (n : ℕ). tried (leb n 64) n p) e ∙ sym (ap (λ (b : Bool). tried b w p) (lt-leb w 64 (omega arith)))

  joined_some : (w : ℕ) (c : List ℕ) (br sp : ℕ) → joins true (leb (min w 65) 64) (min w 65) [] c br sp ≡ after st (shape whole (limited p w)) p (faults_of (limited p w)) (c ++ []) br sp
  joined_some w c br sp = joined_tried (leb (min w 65) 64) (min w 65) c br sp ∙ ap (λ (x : Extent). after st (shape whole x) p (faults_of x) (c ++ []) br sp) (limited_least w)

  pub left_joined : (x : Extent) → Left parts x q items is st → Left whole (one_part x (λ w. limited p w)) p (items ++ six JOINED p 0 0 0 0) is st
  unfolding one_part shape faults_of joins applied emits_of through_of faulty_of gives_of width_on start_on sooner_of
  left_joined (wide w) r =
      record {
        c = r.c ++ [];
        br = r.br;
        sp = r.sp;
        goes = goes_both r.goes (goes_six JOINED p 0 0 0 0 (joined_does (min w 65) [] r.c r.br r.sp ∙ ap (λ (b : Bool). joins (not b) (leb (min w 65) 64) (min w 65) [] r.c r.br r.sp) (ne_eqb (min w 65) 99 (λ e. omega (arith, e))) ∙ joined_some w r.c r.br r.sp));
        code = λ y. append-nil r.c ∙ r.code tt;
      }
  left_joined (faulty l) r =
      record {
        c = r.c ++ [];
        br = r.br;
        sp = r.sp;
        goes = goes_both r.goes (goes_six JOINED p 0 0 0 0 (joined_does 99 l r.c r.br r.sp ∙ none r.c r.br r.sp));
        code = λ y. absurd y;
      }
    where
      none : (c : List ℕ) (br sp : ℕ) → joins false false 99 l c br sp ≡ after st 99 p l (c ++ []) br sp
      none c br sp = refl

module _ (st : State) (q s : ℕ) (items others : List ℕ) (is js : List Item) where
  unfoldable besides : (b : Bool) (x y : ℕ) (k c0 : List ℕ) (br0 sp0 : ℕ) (l c : List ℕ) (br sp : ℕ) → State
  besides b x y k c0 br0 sp0 l c br sp = through_2 st q s b true (min (x + y) 65) q q (Some (Beside y)) (two st q s x k c0 br0 sp0 y l c br sp)

  beside_does : (x y : ℕ) (k c0 : List ℕ) (br0 sp0 : ℕ) (l c : List ℕ) (br sp : ℕ)
      → step_of (two st q s x k c0 br0 sp0 y l c br sp) BESIDE 0 0 0 0 0 ≡ besides (not (eqb y 99 || eqb x 99)) x y k c0 br0 sp0 l c br sp
  unfolding besides through_2 applied step_of effect_of seen_of beside_effect through_of tested_of gives_of around_of pick ended_of held_of
  beside_does x y k c0 br0 sp0 l c br sp = refl

  not_there : (n : ℕ) → n ≤ 65 → eqb n 99 ≡ false
  not_there n h = ne_eqb n 99 (λ e. omega (arith, e, h))

  tests : (x y : ℕ) → x ≤ 65 → y ≤ 65 → not (eqb y 99 || eqb x 99) ≡ true
  tests x y h g = ap₂ (λ (a b : Bool). not (a || b)) (not_there y g) (not_there x h)

  -- a test that fails in its second part
  second : (y : ℕ) → not (eqb y 99 || true) ≡ false
  second y = go (eqb y 99)
    where
      go : (b : Bool) → not (b || true) ≡ false
      go true = refl
      go false = refl

  pub left_beside : (x y : Extent) → Small y → (r : Left parts x q items is st) → Left whole y s others js (after st (shape parts x) q (faults_of x) r.c r.br r.sp)
      → Left parts (two_parts x y (λ m n. wide (m + n))) q (items ++ (others ++ six BESIDE 0 0 0 0 0)) (is ++ (js ++ (Beside (width_of y) ∷ []))) st
  unfolding two_parts shape faults_of width_of besides emits_of each
  left_beside (wide m) (wide n) g r z =
      let e : min (min m 65 + n) 65 ≡ min (m + n) 65 = omega arith in
      record {
        c = z.c ++ emits_of (Some (Beside n));
        br = z.br;
        sp = z.sp;
        goes = goes_both r.goes (goes_both z.goes (goes_six BESIDE 0 0 0 0 0 (beside_does (min m 65) n [] r.c r.br r.sp [] z.c z.br z.sp
            ∙ ap (λ (b : Bool). besides b (min m 65) n [] r.c r.br r.sp [] z.c z.br z.sp) (tests (min m 65) n (omega arith) (omega arith))
            ∙ some_2 st q s r.c r.br r.sp true (min m 65) n (min (min m 65 + n) 65) q q (Some (Beside n)) z.c z.br z.sp
            ∙ ap (λ (w : ℕ). after st w q [] (z.c ++ emits_of (Some (Beside n))) z.br z.sp) e)));
        code = λ y. both_code st is js (Beside n ∷ []) (Some (Beside n)) r.c z.c (r.code tt) (z.code tt) beside_code;
      }
    where
      beside_code : emits_of (Some (Beside n)) ≡ coded (Beside n ∷ [])
      beside_code = refl
  left_beside (wide m) (faulty l) g r z =
      record {
        c = z.c ++ emits_of (Some (Beside 99));
        br = z.br;
        sp = z.sp;
        goes = goes_both r.goes (goes_both z.goes (goes_six BESIDE 0 0 0 0 0 (beside_does (min m 65) 99 [] r.c r.br r.sp l z.c z.br z.sp ∙ none_2 st q s r.c r.br r.sp true (min m 65) 99 (min (min m 65 + 99) 65) q q (Some (Beside 99)) [] l z.c z.br z.sp)));
        code = λ y. absurd y;
      }
  left_beside (faulty k) (wide n) g r z =
      record {
        c = z.c ++ emits_of (Some (Beside n));
        br = z.br;
        sp = z.sp;
        goes = goes_both r.goes (goes_both z.goes (goes_six BESIDE 0 0 0 0 0 (beside_does 99 n k r.c r.br r.sp [] z.c z.br z.sp
            ∙ ap (λ (b : Bool). besides b 99 n k r.c r.br r.sp [] z.c z.br z.sp) (second n)
            ∙ none_2 st q s r.c r.br r.sp true 99 n (min (99 + n) 65) q q (Some (Beside n)) k [] z.c z.br z.sp
            ∙ ap (λ (l : List ℕ). after st 99 q l (z.c ++ emits_of (Some (Beside n))) z.br z.sp) (append-nil k))));
        code = λ y. absurd y;
      }
  left_beside (faulty k) (faulty l) g r z =
      record {
        c = z.c ++ emits_of (Some (Beside 99));
        br = z.br;
        sp = z.sp;
        goes = goes_both r.goes (goes_both z.goes (goes_six BESIDE 0 0 0 0 0 (beside_does 99 99 k r.c r.br r.sp l z.c z.br z.sp ∙ none_2 st q s r.c r.br r.sp true 99 99 (min (99 + 99) 65) q q (Some (Beside 99)) k l z.c z.br z.sp)));
        code = λ y. absurd y;
      }

-- ---- a choice: three expressions, whose faults stand one after the other

-- all three have a width; or one has none, and then the whole has none
pub data Three : Extent → Extent → Extent → Type 0 where
  widths : (k m n : ℕ) → Three (wide k) (wide m) (wide n)
  none : {c x y : Extent} → chosen_extent c x y ≡ faulty (faults_of c ++ (faults_of x ++ faults_of y)) → (has (shape whole y) && has (shape whole x) && has (shape whole c)) ≡ false → Three c x y

pub three : (c x y : Extent) → Three c x y
unfolding two_parts shape faults_of has
three (wide k) (wide m) (wide n) = widths k m n
three (wide k) (wide m) (faulty l) = none refl refl
three (wide k) (faulty j) (wide n) = none (ap faulty (sym (append-nil j))) (ap (λ (b : Bool). b && leb k 64) (and-false (leb n 64)))
three (wide k) (faulty j) (faulty l) = none refl refl
three (faulty i) (wide m) (wide n) = none (ap faulty (sym (append-nil i))) (and-false (leb n 64 && leb m 64))
three (faulty i) (wide m) (faulty l) = none refl refl
three (faulty i) (faulty j) (wide n) = none (ap (λ (l : List ℕ). faulty (i ++ l)) (sym (append-nil j))) (and-false (leb n 64 && false))
three (faulty i) (faulty j) (faulty l) = none refl refl

module _ (st : State) (u t s p o from : ℕ) where
  abbrev pub three_wait : (c x y : ℕ) (i j l k0 k1 k : List ℕ) (b0 s0 b1 s1 br sp : ℕ) → State
  three_wait c x y i j l k0 k1 k b0 s0 b1 s1 br sp = after (after (after st c u i k0 b0 s0) x t j k1 b1 s1) y s l k br sp

  unfoldable pub chooses : (b : Bool) (w : ℕ) → State → State
  chooses b w z = applied z (through_of b 3 from (Some Choice) (gives_of 3 w from None (Some Choice)))

  module _ (k0 k1 k : List ℕ) (b0 s0 b1 s1 br sp : ℕ) where
    some_3 : (c x y w : ℕ) → chooses true w (three_wait c x y [] [] [] k0 k1 k b0 s0 b1 s1 br sp) ≡ after st w from [] (k ++ emits_of (Some Choice)) br sp
    unfolding chooses applied through_of gives_of width_on start_on sooner_of earliest place_told
    some_3 c x y w = refl

    none_3 : (c x y w : ℕ) (i j l : List ℕ) → chooses false w (three_wait c x y i j l k0 k1 k b0 s0 b1 s1 br sp) ≡ after st 99 from (i ++ (j ++ l)) (k ++ emits_of (Some Choice)) br sp
    unfolding chooses applied through_of faulty_of gives_of width_on start_on sooner_of
    none_3 c x y w i j l =
        ap (λ (f : Place). record { widths = 99 ∷ st.widths; starts = from ∷ st.starts; slots = st.slots; code = k ++ emits_of (Some Choice); lengths = st.lengths; first = f; breadth = br; start = sp; cases = st.cases; rule = st.rule })
        (told_after j l (sooner_of (told i) st.first) ∙ told_after i (j ++ l) st.first)

  pub record Over3 : Type 0 where
    pub does : (c x y : ℕ) (i j l k0 k1 k : List ℕ) (b0 s0 b1 s1 br sp : ℕ)
        → step_of (three_wait c x y i j l k0 k1 k b0 s0 b1 s1 br sp) o p 0 0 0 0 ≡ chooses (has y && has x && has c) (max x y) (three_wait c x y i j l k0 k1 k b0 s0 b1 s1 br sp)

  module _ (v : Over3) (ds bs cs : List ℕ) (is js ks : List Item) where
    pub left_choice : (c x y : Extent) → Three c x y → Small c → Small x → Small y
        → (r : Left whole c u ds is st) → (q : Left whole x t bs js (after st (shape whole c) u (faults_of c) r.c r.br r.sp))
        → Left whole y s cs ks (after (after st (shape whole c) u (faults_of c) r.c r.br r.sp) (shape whole x) t (faults_of x) q.c q.br q.sp)
        → Left whole (chosen_extent c x y) from (ds ++ (bs ++ (cs ++ six o p 0 0 0 0))) (is ++ (js ++ (ks ++ (Choice ∷ [])))) st
    unfolding has two_parts shape faults_of emits_of each
    left_choice c x y (widths k m n) hc hx hy r q z =
        record {
          c = z.c ++ emits_of (Some Choice);
          br = z.br;
          sp = z.sp;
          goes = goes_both r.goes (goes_both q.goes (goes_both z.goes (goes_six o p 0 0 0 0 (v.does k m n [] [] [] r.c q.c z.c r.br r.sp q.br q.sp z.br z.sp
              ∙ ap (λ (b : Bool). chooses b (max m n) (three_wait k m n [] [] [] r.c q.c z.c r.br r.sp q.br q.sp z.br z.sp)) (ap₂ ◌&&◌ (ap₂ ◌&&◌ (le-leb n 64 hy) (le-leb m 64 hx)) (le-leb k 64 hc))
              ∙ some_3 r.c q.c z.c r.br r.sp q.br q.sp z.br z.sp k m n (max m n)))));
          code = λ w. both_code (after st k u [] r.c r.br r.sp) js ks (Choice ∷ []) (Some Choice) q.c z.c (q.code tt) (z.code tt) refl
              ∙ ap (λ (l : List ℕ). l ++ coded (js ++ (ks ++ (Choice ∷ [])))) (r.code tt) ∙ append_assoc st.code (coded is) _ ∙ ap (λ (l : List ℕ). st.code ++ l) (sym (each_both is _));
        }
    left_choice c x y (none e f) hc hx hy r q z =
        let g : Goes st (ds ++ (bs ++ (cs ++ six o p 0 0 0 0))) (after st 99 from (faults_of c ++ (faults_of x ++ faults_of y)) (z.c ++ emits_of (Some Choice)) z.br z.sp) =
        goes_both r.goes (goes_both q.goes (goes_both z.goes (goes_six o p 0 0 0 0 (v.does (shape whole c) (shape whole x) (shape whole y) (faults_of c) (faults_of x) (faults_of y) r.c q.c z.c r.br r.sp q.br q.sp z.br z.sp
        ∙ ap (λ (b : Bool). chooses b (max (shape whole x) (shape whole y)) (three_wait (shape whole c) (shape whole x) (shape whole y) (faults_of c) (faults_of x) (faults_of y) r.c q.c z.c r.br r.sp q.br q.sp z.br z.sp)) f
        ∙ none_3 r.c q.c z.c r.br r.sp q.br q.sp z.br z.sp (shape whole c) (shape whole x) (shape whole y) (max (shape whole x) (shape whole y)) (faults_of c) (faults_of x) (faults_of y))))) in
        subst (λ (w : Extent). Left whole w from (ds ++ (bs ++ (cs ++ six o p 0 0 0 0))) (is ++ (js ++ (ks ++ (Choice ∷ [])))) st) (sym e)
        (record { c = z.c ++ emits_of (Some Choice); br = z.br; sp = z.sp; goes = g; code = λ w. absurd w })

-- ---- a case: what it selects by is kept, and its arms stand one deeper

module _ (st : State) (q p : ℕ) where
  -- the state before the arms
  abbrev pub opened : (x : ℕ) (l c : List ℕ) (br sp : ℕ) → State
  opened x l c br sp =
      record {
        widths = x ∷ st.widths;
        starts = q ∷ st.starts;
        slots = st.slots;
        code = c ++ (11 ∷ (16 + st.cases) ∷ x ∷ 0 ∷ []);
        lengths = st.lengths;
        first = sooner_of (told l) st.first;
        breadth = br;
        start = sp;
        cases = st.cases + 1;
        rule = st.rule;
      }

  select_does : (x : ℕ) (l c : List ℕ) (br sp : ℕ) → step_of (after st x q l c br sp) SELECT p 0 0 0 0 ≡ opened x l c br sp
  unfolding step_of effect_of seen_of select_effect ends_of width_on start_on emits_of held_of around_of pick ended_of sooner_of
  select_does x l c br sp = refl

  module _ (s : ℕ) where
    -- the state after the arms, where the faults and the depth are told
    abbrev closes : (w : ℕ) (f : Place) (c : List ℕ) (br sp n : ℕ) → State
    closes w f c br sp n =
        record {
          widths = w ∷ st.widths;
          starts = p ∷ st.starts;
          slots = st.slots;
          code = c;
          lengths = st.lengths;
          first = f;
          breadth = br;
          start = sp;
          cases = n;
          rule = st.rule;
        }

    unfoldable selects : (b : Bool) (x y : ℕ) (k c0 : List ℕ) (br0 sp0 : ℕ) (l c : List ℕ) (br sp : ℕ) → State
    selects b x y k c0 br0 sp0 l c br sp =
        let e : Effect = through_of b 2 p None (gives_of 2 y p None None) in
        record {
          widths = width_on e.leaves (drop e.takes (y ∷ x ∷ st.widths));
          starts = start_on e.leaves (drop e.takes (s ∷ q ∷ st.starts));
          slots = st.slots;
          code = c ++ emits_of e.emits;
          lengths = st.lengths;
          first = sooner_of e.fault (sooner_of (told l) (sooner_of (told k) st.first));
          breadth = br;
          start = sp;
          cases = st.cases + 1 - 1;
          rule = st.rule;
        }

    selected_does : (x y : ℕ) (k c0 : List ℕ) (br0 sp0 : ℕ) (l c : List ℕ) (br sp : ℕ)
        → step_of (after (opened x k c0 br0 sp0) y s l c br sp) SELECTED p 0 0 0 0 ≡ selects (has y && has x) x y k c0 br0 sp0 l c br sp
    unfolding selects step_of effect_of seen_of selected_effect around_of pick ended_of held_of
    selected_does x y k c0 br0 sp0 l c br sp = refl

    back : st.cases + 1 - 1 ≡ st.cases
    back = omega arith

    selected_some : (x y : ℕ) (c0 : List ℕ) (br0 sp0 : ℕ) (c : List ℕ) (br sp : ℕ) → selects true x y [] c0 br0 sp0 [] c br sp ≡ after st y p [] (c ++ []) br sp
    unfolding selects through_of gives_of width_on start_on emits_of sooner_of earliest place_told
    selected_some x y c0 br0 sp0 c br sp = ap (λ (n : ℕ). closes y st.first (c ++ []) br sp n) back

    selected_none : (x y : ℕ) (k c0 : List ℕ) (br0 sp0 : ℕ) (l c : List ℕ) (br sp : ℕ) → selects false x y k c0 br0 sp0 l c br sp ≡ after st 99 p (k ++ l) (c ++ []) br sp
    unfolding selects through_of faulty_of gives_of width_on start_on emits_of sooner_of
    selected_none x y k c0 br0 sp0 l c br sp = ap₂ (λ (f : Place) (n : ℕ). closes 99 f (c ++ []) br sp n) (told_after k l st.first) back

    module _ (items others : List ℕ) (is js : List Item) where
      pub left_select : (x y : Extent) → Small x → Small y → (r : Left whole x q items is st) → Left whole y s others js (opened (shape whole x) (faults_of x) r.c r.br r.sp)
          → Left whole (two_parts x y (λ k w. wide w)) p (items ++ (six SELECT p 0 0 0 0 ++ (others ++ six SELECTED p 0 0 0 0))) (is ++ (Keep (16 + st.cases) (width_of x) ∷ js)) st
      unfolding has two_parts shape faults_of width_of each
      left_select (wide m) (wide n) h g r z =
          record {
            c = z.c ++ [];
            br = z.br;
            sp = z.sp;
            goes = goes_both r.goes (goes_both (goes_six SELECT p 0 0 0 0 (select_does m [] r.c r.br r.sp)) (goes_both z.goes (goes_six SELECTED p 0 0 0 0 (selected_does m n [] r.c r.br r.sp [] z.c z.br z.sp
                ∙ ap (λ (b : Bool). selects b m n [] r.c r.br r.sp [] z.c z.br z.sp) (ap₂ ◌&&◌ (le-leb n 64 g) (le-leb m 64 h)) ∙ selected_some m n r.c r.br r.sp z.c z.br z.sp))));
            code = λ y. append-nil z.c ∙ z.code tt ∙ ap (λ (l : List ℕ). (l ++ encode (Keep (16 + st.cases) m)) ++ coded js) (r.code tt)
                ∙ append_assoc (st.code ++ coded is) (encode (Keep (16 + st.cases) m)) (coded js) ∙ append_assoc st.code (coded is) (encode (Keep (16 + st.cases) m) ++ coded js) ∙ ap (λ (l : List ℕ). st.code ++ l) (sym (each_both is (Keep (16 + st.cases) m ∷ js)));
          }
      left_select (wide m) (faulty l) h g r z =
          record {
            c = z.c ++ [];
            br = z.br;
            sp = z.sp;
            goes = goes_both r.goes (goes_both (goes_six SELECT p 0 0 0 0 (select_does m [] r.c r.br r.sp)) (goes_both z.goes (goes_six SELECTED p 0 0 0 0 (selected_does m 99 [] r.c r.br r.sp l z.c z.br z.sp ∙ selected_none m 99 [] r.c r.br r.sp l z.c z.br z.sp))));
            code = λ y. absurd y;
          }
      left_select (faulty k) (wide n) h g r z =
          record {
            c = z.c ++ [];
            br = z.br;
            sp = z.sp;
            goes = goes_both r.goes (goes_both (goes_six SELECT p 0 0 0 0 (select_does 99 k r.c r.br r.sp)) (goes_both z.goes (goes_six SELECTED p 0 0 0 0 (selected_does 99 n k r.c r.br r.sp [] z.c z.br z.sp
                ∙ ap (λ (b : Bool). selects b 99 n k r.c r.br r.sp [] z.c z.br z.sp) (and-false (leb n 64)) ∙ selected_none 99 n k r.c r.br r.sp [] z.c z.br z.sp
                ∙ ap (λ (l : List ℕ). after st 99 p l (z.c ++ []) z.br z.sp) (append-nil k)))));
            code = λ y. absurd y;
          }
      left_select (faulty k) (faulty l) h g r z =
          record {
            c = z.c ++ [];
            br = z.br;
            sp = z.sp;
            goes = goes_both r.goes (goes_both (goes_six SELECT p 0 0 0 0 (select_does 99 k r.c r.br r.sp)) (goes_both z.goes (goes_six SELECTED p 0 0 0 0 (selected_does 99 99 k r.c r.br r.sp l z.c z.br z.sp ∙ selected_none 99 99 k r.c r.br r.sp l z.c z.br z.sp))));
            code = λ y. absurd y;
          }
