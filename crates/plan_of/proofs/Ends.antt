-- What ends a statement: a value against its target. Assumes nothing.
use mathlib.Core.Path.{◌≡◌, refl, sym, ap, ap₂, ◌∙◌}
use mathlib.Core.Bool.{Bool, true, false, not, ◌&&◌, ◌||◌}
use mathlib.Core.List.{List, [], ◌∷◌, ◌++◌, append-nil}
use Prim.Native.Nat.{ℕ}
use native.Mathlib.Omega.{arith}
use lib.Dec.{leb}
use lib.ListN.{set}
use borrow.Author.Tests.{le-leb, lt-leb, leb-true}
use Rattle.language.specs.Text.{earliest}
use Rattle.language.specs.Parts.{each}
use Rattle.language.specs.Sizes.{Extent, wide, faulty, one_part, two_parts, faults_of, limited}
use Rattle.words.specs.Found.{Place}
use Rattle.std.specs.Prelude.{Some, None}
use Rattle.words.specs.Found.{earlier_of, place_told}
use Rattle.plan.specs.declared.Item.{Item}
use Rattle.plan.specs.declared.Item.TheVariants.{Keep, Assign, Write}
use Rattle.plan_of.specs.PlanOf.{width_of}
use Rattle.plan_of.specs.Formed.{whole}
use Rattle.plan_of.proofs.Extents.{IsWide}
use Rattle.settled.specs.Form.{six, ASSIGN, WRITE, VAL, TYPED}
use Rattle.size_walk.specs.Effects.{sooner_of, has, ends_of, unless_at, fitted_at, assign_effect, write_effect, val_effect, kept_of, typed_effect, effect_of}
use Rattle.size_walk.specs.Steps.{State, seen_of, width_on, start_on, emits_of, kept_in, held_of, around_of, pick, ended_of, step_of}
use Rattle.plan_of.proofs.Firsts.{told, told_both, told_after, sooner_assoc, sooner_comm}
use Rattle.plan_of.proofs.Walks.{Goes, goes_both, goes_six, after}
use Rattle.plan_of.proofs.Left.{shape, Small, coded, Left, more, both_code}

-- a value against its target's width
abbrev pub fit : Extent → ℕ → ℕ → Extent
fit x w q = one_part x (λ v. elim (leb v w) [ true ↦ wide w | false ↦ faulty (q ∷ []) ])

-- a statement is done: some faults, the code so far, the slots
abbrev pub done : State → Place → (code slots : List ℕ) → (breadth start : ℕ) → State
done st f c sl br sp =
    record {
      widths = st.widths;
      starts = st.starts;
      slots = sl;
      code = c;
      lengths = st.lengths;
      first = sooner_of f st.first;
      breadth = br;
      start = sp;
      cases = st.cases;
      rule = st.rule;
    }

pub record Ends (f : Place) (items : List ℕ) (is : List Item) (W : Type 0) (slots : List ℕ) (st : State) : Type 0 where
  pub c : List ℕ
  pub br : ℕ
  pub sp : ℕ
  pub goes : Goes st items (done st f c slots br sp)
  pub code : W → c ≡ st.code ++ coded is

module _ (st : State) (q p k w : ℕ) (items : List ℕ) (is : List Item) where
  unfoldable assigned : (b : Bool) (f : Place) (c : List ℕ) (br sp : ℕ) → State
  assigned b f c br sp = done (done st f c st.slots br sp) (unless_at b q) (c ++ (12 ∷ k ∷ 0 ∷ 0 ∷ [])) st.slots br sp

  assign_does : (v : ℕ) (l c : List ℕ) (br sp : ℕ) → step_of (after st v q l c br sp) ASSIGN p k 0 0 w ≡ assigned (not (has v) || leb v w) (told l) c br sp
  unfolding assigned step_of effect_of seen_of assign_effect fitted_at ends_of width_on start_on emits_of held_of around_of pick ended_of
  assign_does v l c br sp = refl

  pub end_assign : (x : Extent) → Small x → Left whole x q items is st → Ends (told (faults_of (fit x w q))) (items ++ six ASSIGN p k 0 0 w) (is ++ (Assign k ∷ [])) (IsWide (fit x w q)) st.slots st
  unfolding assigned has one_part faults_of shape unless_at sooner_of earliest place_told emits_of each
  end_assign (wide v) h r = go (leb v w) refl
    where
      step : (b : Bool) → leb v w ≡ b → step_of (after st v q [] r.c r.br r.sp) ASSIGN p k 0 0 w ≡ assigned b None r.c r.br r.sp
      step b e = assign_does v [] r.c r.br r.sp ∙ ap₂ (λ (x y : Bool). assigned (not x || y) None r.c r.br r.sp) (le-leb v 64 h) e

      go : (b : Bool) → leb v w ≡ b → Ends (told (faults_of (elim b [ true ↦ wide w | false ↦ faulty (q ∷ []) ]))) (items ++ six ASSIGN p k 0 0 w) (is ++ (Assign k ∷ [])) (IsWide (elim b [ true ↦ wide w | false ↦ faulty (q ∷ []) ])) st.slots st
      go true e = record { c = r.c ++ (12 ∷ k ∷ 0 ∷ 0 ∷ []); br = r.br; sp = r.sp; goes = goes_both r.goes (goes_six ASSIGN p k 0 0 w (step true e)); code = λ y. more r.c st.code is (Assign k ∷ []) (Some (Assign k)) (r.code tt) refl }
      go false e = record { c = r.c ++ (12 ∷ k ∷ 0 ∷ 0 ∷ []); br = r.br; sp = r.sp; goes = goes_both r.goes (goes_six ASSIGN p k 0 0 w (step false e)); code = λ y. absurd y }
  end_assign (faulty l) h r =
      record { c = r.c ++ (12 ∷ k ∷ 0 ∷ 0 ∷ []); br = r.br; sp = r.sp; goes = goes_both r.goes (goes_six ASSIGN p k 0 0 w (assign_does 99 l r.c r.br r.sp)); code = λ y. absurd y }

-- ---- a write: an address and a value

module _ (st : State) (q s p m f n w : ℕ) (items others : List ℕ) (is js : List Item) where
  unfoldable written : (b : Bool) (e : Place) (c : List ℕ) (br sp : ℕ) → State
  written b e c br sp = done (done st e c st.slots br sp) (unless_at b s) (c ++ (13 ∷ m ∷ f ∷ n ∷ [])) st.slots br sp

  write_does : (u v : ℕ) (k c0 : List ℕ) (br0 sp0 : ℕ) (l c : List ℕ) (br sp : ℕ)
      → step_of (after (after st u q k c0 br0 sp0) v s l c br sp) WRITE p m f n w ≡ written (not (has v) || leb v w) (told (k ++ l)) c br sp
  unfolding written step_of effect_of seen_of write_effect fitted_at ends_of width_on start_on emits_of held_of around_of pick ended_of
  write_does u v k c0 br0 sp0 l c br sp =
      ap (λ (e : Place). record { widths = st.widths; starts = st.starts; slots = st.slots; code = c ++ (13 ∷ m ∷ f ∷ n ∷ []); lengths = st.lengths; first = sooner_of (unless_at (not (has v) || leb v w) s) e; breadth = br; start = sp; cases = st.cases; rule = st.rule })
      (told_after k l st.first)

  -- the value's own fault comes after those inside
  pub end_write : (x y : Extent) → Small y → (r : Left whole x q items is st) → Left whole y s others js (after st (shape whole x) q (faults_of x) r.c r.br r.sp)
      → Ends (told (faults_of x ++ faults_of (fit y w s))) (items ++ (others ++ six WRITE p m f n w)) (is ++ (js ++ (Write m f n ∷ []))) (IsWide x × IsWide (fit y w s)) st.slots st
  unfolding written has one_part faults_of shape unless_at sooner_of earliest place_told emits_of each
  end_write x (wide v) h r z = go (leb v w) refl
    where
      step : (b : Bool) → leb v w ≡ b → step_of (after (after st (shape whole x) q (faults_of x) r.c r.br r.sp) v s [] z.c z.br z.sp) WRITE p m f n w ≡ written b (told (faults_of x ++ [])) z.c z.br z.sp
      step b e = write_does (shape whole x) v (faults_of x) r.c r.br r.sp [] z.c z.br z.sp ∙ ap₂ (λ (a d : Bool). written (not a || d) (told (faults_of x ++ [])) z.c z.br z.sp) (le-leb v 64 h) e

      -- both faults, in either order
      joins : (b : Bool) → written b (told (faults_of x ++ [])) z.c z.br z.sp ≡ done st (told (faults_of x ++ faults_of (elim b [ true ↦ wide w | false ↦ faulty (s ∷ []) ]))) (z.c ++ (13 ∷ m ∷ f ∷ n ∷ [])) st.slots z.br z.sp
      joins true = refl
      joins false = ap (λ (e : Place). record { widths = st.widths; starts = st.starts; slots = st.slots; code = z.c ++ (13 ∷ m ∷ f ∷ n ∷ []); lengths = st.lengths; first = e; breadth = z.br; start = z.sp; cases = st.cases; rule = st.rule })
          (ap (λ (l : List ℕ). sooner_of (Some s) (sooner_of (told l) st.first)) (append-nil (faults_of x)) ∙ told_after (faults_of x) (s ∷ []) st.first)

      go : (b : Bool) → leb v w ≡ b
          → Ends (told (faults_of x ++ faults_of (elim b [ true ↦ wide w | false ↦ faulty (s ∷ []) ]))) (items ++ (others ++ six WRITE p m f n w)) (is ++ (js ++ (Write m f n ∷ []))) (IsWide x × IsWide (elim b [ true ↦ wide w | false ↦ faulty (s ∷ []) ])) st.slots st
      go b e =
          record {
            c = z.c ++ (13 ∷ m ∷ f ∷ n ∷ []);
            br = z.br;
            sp = z.sp;
            goes = goes_both r.goes (goes_both z.goes (goes_six WRITE p m f n w (step b e ∙ joins b)));
            code = λ y. both_code st is js (Write m f n ∷ []) (Some (Write m f n)) r.c z.c (r.code y.0) (z.code tt) refl;
          }
  end_write x (faulty l) h r z =
      record {
        c = z.c ++ (13 ∷ m ∷ f ∷ n ∷ []);
        br = z.br;
        sp = z.sp;
        goes = goes_both r.goes (goes_both z.goes (goes_six WRITE p m f n w (write_does (shape whole x) 99 (faults_of x) r.c r.br r.sp l z.c z.br z.sp)));
        code = λ y. absurd y.1;
      }

-- ---- a `val`: its slot holds its width

module _ (st : State) (q p k : ℕ) (items : List ℕ) (is : List Item) where
  val_does : (v : ℕ) (l c : List ℕ) (br sp : ℕ) → step_of (after st v q l c br sp) VAL p k 0 0 0 ≡ done st (told l) (c ++ (11 ∷ k ∷ v ∷ 0 ∷ [])) (set st.slots k v) br sp
  unfolding step_of effect_of seen_of val_effect ends_of width_on start_on emits_of held_of around_of pick ended_of sooner_of kept_in
  val_does v l c br sp = refl

  pub end_val : (x : Extent) → Left whole x q items is st → Ends (told (faults_of x)) (items ++ six VAL p k 0 0 0) (is ++ (Keep k (width_of x) ∷ [])) (IsWide x) (set st.slots k (shape whole x)) st
  unfolding shape width_of emits_of each
  end_val (wide v) r = record { c = r.c ++ (11 ∷ k ∷ v ∷ 0 ∷ []); br = r.br; sp = r.sp; goes = goes_both r.goes (goes_six VAL p k 0 0 0 (val_does v (faults_of (wide v)) r.c r.br r.sp)); code = λ y. more r.c st.code is (Keep k v ∷ []) (Some (Keep k v)) (r.code tt) refl }
  end_val (faulty l) r = record { c = r.c ++ (11 ∷ k ∷ 99 ∷ 0 ∷ []); br = r.br; sp = r.sp; goes = goes_both r.goes (goes_six VAL p k 0 0 0 (val_does 99 (faults_of (faulty l)) r.c r.br r.sp)); code = λ y. absurd y }

  -- ---- a `val` with a type: its target, 64 at most

  module _ (w : ℕ) where
    -- the extent of the `let`, by its type's limit and its value
    abbrev pub target : Extent → Extent
    target x = two_parts (limited p w) (fit x w q) (λ a b. wide b)

    unfoldable typed : (a b d : Bool) (f : Place) (c : List ℕ) (br sp : ℕ) → State
    typed a b d f c br sp = done (done st f c st.slots br sp) (sooner_of (unless_at a p) (unless_at b q)) (c ++ (11 ∷ k ∷ pick d w 99 ∷ 0 ∷ [])) (set st.slots k (pick d w 99)) br sp

    kept_pick : (d : Bool) (v : Rattle.size_walk.specs.declared.Seen.Seen) → kept_of v d w ≡ pick d w 99
    unfolding kept_of pick
    kept_pick true v = refl
    kept_pick false v = refl

    typed_does : (v : ℕ) (l c : List ℕ) (br sp : ℕ) → step_of (after st v q l c br sp) TYPED p k 0 0 w ≡ typed (has w) (not (has v) || leb v w) (has w && leb v w) (told l) c br sp
    unfolding typed step_of effect_of seen_of typed_effect fitted_at ends_of width_on start_on emits_of held_of around_of pick ended_of kept_of kept_in
    typed_does v l c br sp =
        ap (λ (n : ℕ). record { widths = st.widths; starts = st.starts; slots = set st.slots k n; code = c ++ (11 ∷ k ∷ n ∷ 0 ∷ []); lengths = st.lengths; first = sooner_of (sooner_of (unless_at (has w) p) (unless_at (not (has v) || leb v w) q)) (sooner_of (told l) st.first); breadth = br; start = sp; cases = st.cases; rule = st.rule })
        (kept_pick (has w && leb v w) (seen_of (after st v q l c br sp) k))

    -- a value that has a width: its type's limit and its own test
    abbrev aim : (a b : Bool) → Extent
    aim a b = two_parts (elim a [ true ↦ wide w | false ↦ faulty (p ∷ []) ]) (elim b [ true ↦ wide w | false ↦ faulty (q ∷ []) ]) (λ x y. wide y)

    aimed : (a b : Bool) (c : List ℕ) (br sp : ℕ) → typed a b (a && b) None c br sp ≡ done st (told (faults_of (aim a b))) (c ++ (11 ∷ k ∷ shape whole (aim a b) ∷ 0 ∷ [])) (set st.slots k (shape whole (aim a b))) br sp
    unfolding typed two_parts faults_of shape pick unless_at sooner_of earliest place_told earlier_of
    aimed true true c br sp = refl
    aimed true false c br sp = refl
    aimed false true c br sp = refl
    aimed false false c br sp = refl

    -- a fault inside: only its type's limit is told besides
    missed : (a : Bool) (l c : List ℕ) (br sp : ℕ)
        → typed a true false (told l) c br sp ≡ done st (told (faults_of (two_parts (elim a [ true ↦ wide w | false ↦ faulty (p ∷ []) ]) (faulty l) (λ x y. wide y)))) (c ++ (11 ∷ k ∷ 99 ∷ 0 ∷ [])) (set st.slots k 99) br sp
    unfolding typed two_parts faults_of pick unless_at sooner_of earliest place_told earlier_of
    missed true l c br sp = refl
    missed false l c br sp = ap (λ (e : Place). done_at e) (at_first ∙ ap (λ (e : Place). sooner_of e st.first) (sooner_comm (told (p ∷ [])) (told l) ∙ sym (told_both l (p ∷ [])) ∙ same_told))
      where
        done_at : Place → State
        done_at e = record { widths = st.widths; starts = st.starts; slots = set st.slots k 99; code = c ++ (11 ∷ k ∷ 99 ∷ 0 ∷ []); lengths = st.lengths; first = e; breadth = br; start = sp; cases = st.cases; rule = st.rule }

        at_first : sooner_of (told (p ∷ [])) (sooner_of (told l) st.first) ≡ sooner_of (sooner_of (told (p ∷ [])) (told l)) st.first
        at_first = sooner_assoc (told (p ∷ [])) (told l) st.first

        same_told : told (l ++ (p ∷ [])) ≡ told (p ∷ l)
        same_told = told_both l (p ∷ []) ∙ sooner_comm (told l) (told (p ∷ [])) ∙ sym (told_both (p ∷ []) l)

    -- the code of what has a width
    aimed_code : (a b : Bool) (c : List ℕ) → IsWide (aim a b) → c ≡ st.code ++ coded is → c ++ (11 ∷ k ∷ shape whole (aim a b) ∷ 0 ∷ []) ≡ st.code ++ coded (is ++ (Keep k (width_of (aim a b)) ∷ []))
    unfolding two_parts shape width_of emits_of each
    aimed_code true true c y e = more c st.code is (Keep k w ∷ []) (Some (Keep k w)) e refl
    aimed_code true false c y e = absurd y
    aimed_code false true c y e = absurd y
    aimed_code false false c y e = absurd y

    not_wide : (a : Bool) (l : List ℕ) → IsWide (two_parts (elim a [ true ↦ wide w | false ↦ faulty (p ∷ []) ]) (faulty l) (λ x y. wide y)) → ⊥
    unfolding two_parts
    not_wide true l y = y
    not_wide false l y = y

    faulty_shape : (a : Bool) (l : List ℕ) → shape whole (two_parts (elim a [ true ↦ wide w | false ↦ faulty (p ∷ []) ]) (faulty l) (λ x y. wide y)) ≡ 99
    unfolding two_parts shape
    faulty_shape true l = refl
    faulty_shape false l = refl

    -- 99 fits no width of at most 64
    fits_none : has w && leb 99 w ≡ false
    unfolding has
    fits_none = go (leb w 64) refl
      where
        go : (a : Bool) → leb w 64 ≡ a → (a && leb 99 w) ≡ false
        go true e = lt-leb 99 w (let h = leb-true w 64 e in omega arith)
        go false e = refl

    pub end_typed : (x : Extent) → Small x → Left whole x q items is st → Ends (told (faults_of (target x))) (items ++ six TYPED p k 0 0 w) (is ++ (Keep k (width_of (target x)) ∷ [])) (IsWide (target x)) (set st.slots k (shape whole (target x))) st
    unfolding limited one_part shape faults_of has earliest place_told
    end_typed (wide v) h r =
        record {
          c = r.c ++ (11 ∷ k ∷ shape whole (aim (leb w 64) (leb v w)) ∷ 0 ∷ []);
          br = r.br;
          sp = r.sp;
          goes = goes_both r.goes (goes_six TYPED p k 0 0 w (typed_does v [] r.c r.br r.sp
              ∙ ap (λ (z : Bool). typed (leb w 64) (not z || leb v w) (leb w 64 && leb v w) None r.c r.br r.sp) (le-leb v 64 h)
              ∙ aimed (leb w 64) (leb v w) r.c r.br r.sp));
          code = λ y. aimed_code (leb w 64) (leb v w) r.c y (r.code tt);
        }
    end_typed (faulty l) h r =
        record {
          c = r.c ++ (11 ∷ k ∷ 99 ∷ 0 ∷ []);
          br = r.br;
          sp = r.sp;
          goes = goes_both r.goes (goes_six TYPED p k 0 0 w (typed_does 99 l r.c r.br r.sp
              ∙ ap (λ (d : Bool). typed (leb w 64) true d (told l) r.c r.br r.sp) fits_none
              ∙ missed (leb w 64) l r.c r.br r.sp
              ∙ ap (λ (n : ℕ). done st (told (faults_of (target (faulty l)))) (r.c ++ (11 ∷ k ∷ 99 ∷ 0 ∷ [])) (set st.slots k n) r.br r.sp) (sym (faulty_shape (leb w 64) l))));
          code = λ y. absurd (not_wide (leb w 64) l y);
        }
