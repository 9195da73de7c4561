-- The values of a cycle's line, one for each input of the plan, and the end of the line, at which the cycle is run. Assumes nothing.
use mathlib.Core.Path.{◌≡◌, refl, sym, ap, ◌∙◌, subst}
use Rattle.std.specs.Prelude.{Some, None}
use mathlib.Core.Bool.{Bool, true, false}
use mathlib.Core.List.{List, [], ◌∷◌, ◌++◌, append_assoc, append-nil}
use Prim.Native.Nat.{ℕ, zero, suc, ◌+◌, ◌-◌, ◌≤◌, ◌<◌}
use native.Mathlib.Omega.{arith}
use native.Mathlib.Numerals.{add-one}
use borrow.Author.Tests.{ltb-true, ltb-false, eqb-true, eqb-false}
use lib.Dec.{eqb, ltb}
use lib.ListN.{length, get_or, take, set, length-set}
use lib.Seq.{take-suc, take-suc-set, get_or-set_other}
use Rattle.language.specs.Bindings.{Got, got, lost, after, byte, number_up_to}
use Rattle.language.specs.Worked.{CycleRead, is_bad}
use Rattle.plan.specs.Layout.{port_at}
use Rattle.figures.specs.declared.Stage.{Stage}
use Rattle.figures.specs.declared.Stage.TheVariants.{Line}
use Rattle.figures.specs.declared.State.{State}
use Rattle.figures.specs.States.{grown_of, port_of, most_of, line_takes}
use Rattle.input_bytes.specs.Lines.{Lined, input_from, next_input, standing, mask_after, values_after, turned_of, number_ends, line_byte}
use Rattle.cycle_line.specs.Shown.{ports_of}
use Rattle.input_bytes.specs.Bytes.{Machine, machine, stated, lined, moved_at, moved_of}
use Rattle.tipirun.specs.Machine.{passed_by, Judges, unwritten}
use Rattle.figures.proofs.Counting.{most_mask, most_value}
use Rattle.input_bytes.proofs.Counting.{input_first, mask_new, mask_old, values_old, values_new}
use Rattle.input_bytes.proofs.Ends.{line_ends, blank_wrong, blank_next, end_wrong, end_turn}
use Rattle.tipirun.proofs.Onward.{From, more}
use Rattle.tipirun.proofs.CountLines.{Enters}
use Rattle.tipirun.proofs.TextRuns.{enters_by, still_comes}
use Rattle.tipirun.proofs.LineNumbers.{Ended, Numbered, line_wrong, line_cut, line_number}
use Rattle.input_bytes.proofs.Signatures.{values_from, plan_turn}

-- a byte that writes, and what is written after it
pub record After (t : Machine) (bs out : List ℕ) : Type 0 where
  pub later : List ℕ
  pub both : out ≡ t.wrote ++ later
  pub enters : Enters t bs later

after_byte : (m t : Machine) (b : ℕ) (bs out : List ℕ) → moved_of m b ≡ t → From m (b ∷ bs) out → After t bs out
unfolding passed_by
after_byte m t b bs out q x =
    let y = more x in
    let e : y.to ≡ passed_by y.stepped.what t = sym y.stepped.makes ∙ ap (passed_by y.stepped.what) q in
    record {
      later = y.after;
      both = y.both ∙ ap (λ (z : Machine). z.wrote ++ y.after) e;
      enters = record {
        what = y.stepped.what;
        judges = subst (λ (z : Machine). Judges y.stepped.what z.state z.actor z.bindings) q y.stepped.judges;
        rest = subst (λ (z : Machine). From (unwritten z) bs y.after) e y.rest;
      };
    }

abbrev pub line_over : List ℕ → List ℕ → Got (List ℕ)
line_over l x = byte 10 x (λ y. got l y)

module _ (p : List ℕ) where
  -- the slots of outputs hold 0
  pub record Slots (v : List ℕ) : Type 0 where
    pub long : ports_of p ≤ length v
    pub zeros : (j : ℕ) → j < ports_of p → 256 ≤ port_at p j → get_or v j 0 ≡ 0

  -- the line is over: the cycle is run with these values, of which those before the last ones are known
  pub record Run (s : State) (m : Machine) (mask : ℕ) (base l y out : List ℕ) : Type 0 where
    pub values : List ℕ
    pub slots : Slots values
    pub first : take (ports_of p) values ≡ base ++ l
    pub runs : After (lined m (turned_of s mask p values m.outputs m.memory)) y out

  unfoldable pub Finish : State → Machine → ℕ → List ℕ → List ℕ → Got (List ℕ) → Type 0
  Finish s m mask base out (lost y) = out ≡ is_bad
  Finish s m mask base out (got l y) = Run s m mask base l y out

  -- one value more in front
  one_more : (s : State) (m : Machine) (mask w : ℕ) (base out : List ℕ) (z : Got (List ℕ)) → Finish s m mask (base ++ (w ∷ [])) out (after z line_over) → Finish s m mask base out (after (after z (λ l y. got (w ∷ l) y)) line_over)
  unfolding Finish after byte
  one_more s m mask w base out (lost y) x = x
  one_more s m mask w base out (got l []) x = x
  one_more s m mask w base out (got l (b ∷ r)) x = go (eqb 10 b) x
    where
      go : (t : Bool) → Finish s m mask (base ++ (w ∷ [])) out (elim t [ true ↦ got l r | false ↦ lost (b ∷ r) ]) → Finish s m mask base out (elim t [ true ↦ got (w ∷ l) r | false ↦ lost (b ∷ r) ])
      go true y = record { values = y.values; slots = y.slots; first = y.first ∙ append_assoc base (w ∷ []) l; runs = y.runs }
      go false y = y

  -- ---- a number of the line has ended as v, before the byte b

  module _ (m : Machine) (s : State) (v : ℕ) (e : s.stage ≡ Line) (h : 0 < s.left) (plan : take s.plan m.plan ≡ p) where
    ends_as : (b : ℕ) → line_takes (grown_of s v) b ≡ false → number_ends (grown_of s v) v b p m.values m.outputs m.memory ≡ line_byte (grown_of s v) b m.plan m.values m.outputs m.memory
    ends_as b t = ap (λ (l : List ℕ). number_ends (grown_of s v) v b l m.values m.outputs m.memory) (sym plan) ∙ line_ends (grown_of s v) b m.plan m.values m.outputs m.memory v t refl

    moved_as : (b : ℕ) (x : Lined) → line_takes (grown_of s v) b ≡ false → x ≡ number_ends (grown_of s v) v b p m.values m.outputs m.memory → moved_of (stated m (grown_of s v)) b ≡ lined m x
    unfolding moved_of moved_at
    moved_as b x t q = ap (λ (g : Stage). moved_at g (stated m (grown_of s v)) b) e ∙ ap (lined m) (sym (q ∙ ends_as b t))

    over : (i c : ℕ) (r out : List ℕ) → next_input p s.port ≡ None → ports_of p ≤ i → i ≤ ports_of p → Slots (values_after (grown_of s v) v m.values) → c ≡ 10 → Ended m s out v (c ∷ r)
        → Run s m (mask_after (grown_of s v) v) (take i (values_after (grown_of s v) v m.values)) [] r out
    unfolding turned_of
    over i c r out q a b z f x =
        record {
          values = values_after (grown_of s v) v m.values;
          slots = z;
          first = ap (λ (k : ℕ). take k (values_after (grown_of s v) v m.values)) (let k : ports_of p ≡ i = omega arith in k) ∙ sym (append-nil (take i (values_after (grown_of s v) v m.values)));
          runs =
              after_byte (stated m (grown_of s v)) (lined m (turned_of (grown_of s v) (mask_after (grown_of s v) v) p (values_after (grown_of s v) v m.values) m.outputs m.memory)) c r out
              (moved_as c (turned_of (grown_of s v) (mask_after (grown_of s v) v) p (values_after (grown_of s v) v m.values) m.outputs m.memory) (x.stops c r refl)
              (end_turn (grown_of s v) v c p m.values m.outputs m.memory q f))
              x.rest;
        }

    astray : (c : ℕ) (r out : List ℕ) → next_input p s.port ≡ None → (c ≡ 10 → ⊥) → Ended m s out v (c ∷ r) → out ≡ is_bad
    astray c r out q f x =
        line_wrong (stated m (grown_of s v)) c r out e (end_wrong (grown_of s v) v c p m.values m.outputs m.memory q f ∙ ends_as c (x.stops c r refl)) x.rest

    unblanked : (i c : ℕ) (r out : List ℕ) → next_input p s.port ≡ Some i → (c ≡ 32 → ⊥) → Ended m s out v (c ∷ r) → out ≡ is_bad
    unblanked i c r out q f x =
        line_wrong (stated m (grown_of s v)) c r out e (blank_wrong (grown_of s v) v c p m.values m.outputs m.memory i q f ∙ ends_as c (x.stops c r refl)) x.rest

    -- the value of the input i is to come
    blanked : (i c : ℕ) (r out : List ℕ) → next_input p s.port ≡ Some i → c ≡ 32 → Ended m s out v (c ∷ r)
        → From (machine (port_of (grown_of s v) (mask_after (grown_of s v) v) (i + 1)) m.actor m.bindings m.plan (values_after (grown_of s v) v m.values) m.outputs m.memory []) r out
    blanked i c r out q f x =
        let t : Lined = standing (port_of (grown_of s v) (mask_after (grown_of s v) v) (i + 1)) (values_after (grown_of s v) v m.values) m.outputs m.memory in
        still_comes (lined m t) r out h
        (enters_by (stated m (grown_of s v)) (lined m t) c r out
        (moved_as c t (x.stops c r refl) (blank_next (grown_of s v) v c p m.values m.outputs m.memory i q f)) refl x.rest)

    -- no input is to come
    last : (i : ℕ) (r out : List ℕ) → next_input p s.port ≡ None → ports_of p ≤ i → i ≤ ports_of p → Slots (values_after (grown_of s v) v m.values) → Ended m s out v r
        → Finish s m (mask_after (grown_of s v) v) (take i (values_after (grown_of s v) v m.values)) out (line_over [] r)
    unfolding Finish byte
    last i [] out q a b z x = line_cut (stated m (grown_of s v)) out e x.rest
    last i (c ∷ r) out q a b z x = go (eqb 10 c) refl
      where
        go : (t : Bool) → eqb 10 c ≡ t → Finish s m (mask_after (grown_of s v) v) (take i (values_after (grown_of s v) v m.values)) out (elim t [ true ↦ got [] r | false ↦ lost (c ∷ r) ])
        go true f = over i c r out q a b z (sym (eqb-true 10 c f)) x
        go false f = astray c r out q (λ k. eqb-false 10 c f (sym k)) x

  -- ---- the values, one after the other

  from_here : (k i : ℕ) → ltb (port_at p i) 256 ≡ true → input_from p (suc k) i ≡ Some i
  unfolding input_from
  from_here k i f = simp (input_from, f)

  from_past : (k i : ℕ) → ltb (port_at p i) 256 ≡ false → input_from p (suc k) i ≡ input_from p k (i + 1)
  unfolding input_from
  from_past k i f = simp (input_from, f)

  input_values : (k i : ℕ) (r : List ℕ) → ltb (port_at p i) 256 ≡ true → values_from p (suc k) i r ≡ byte 32 r (λ r. after (number_up_to 18_446_744_073_709_551_615 r) (λ v x. after (values_from p k (i + 1) x) (λ l y. got (v ∷ l) y)))
  unfolding values_from
  input_values k i r f = simp (values_from, f)

  output_values : (k i : ℕ) (r : List ℕ) → ltb (port_at p i) 256 ≡ false → values_from p (suc k) i r ≡ after (values_from p k (i + 1) r) (λ l y. got (0 ∷ l) y)
  unfolding values_from
  output_values k i r f = simp (values_from, f)

  -- a value in an input's slot leaves the outputs' slots
  kept_slots : (v : List ℕ) (i w : ℕ) → port_at p i < 256 → Slots v → Slots (set v i w)
  kept_slots v i w h x =
      record {
        long = (let a = length-set v i w in let b = x.long in omega arith);
        zeros = λ j q f. get_or-set_other v i j w 0 (λ e. other j f e) ∙ x.zeros j q f;
      }
    where
      other : (j : ℕ) → 256 ≤ port_at p j → j ≡ i → ⊥
      other j f e = let a : port_at p j ≡ port_at p i = ap (port_at p) e in omega arith

  -- the machine before the next value differs in nothing that the end of the line needs
  same_finish : (s : State) (m : Machine) (v k q mask : ℕ) (w base out : List ℕ) (z : Got (List ℕ))
      → Finish (port_of (grown_of s v) k q) (machine m.state m.actor m.bindings m.plan w m.outputs m.memory []) mask base out z → Finish s m mask base out z
  unfolding Finish turned_of
  same_finish s m v k q mask w base out (lost y) x = x
  same_finish s m v k q mask w base out (got l y) x = record { values = x.values; slots = x.slots; first = x.first; runs = x.runs }

  -- what is to be shown of k ports from i on
  abbrev Goes : ℕ → ℕ → List ℕ → Type 0
  Goes k i out =
      (m : Machine) (s : State) (v : ℕ) (r : List ℕ) → s.stage ≡ Line → 0 < s.left → take s.plan m.plan ≡ p → next_input p s.port ≡ input_from p k i → Slots (values_after (grown_of s v) v m.values) → Ended m s out v r
      → Finish s m (mask_after (grown_of s v) v) (take i (values_after (grown_of s v) v m.values)) out (after (values_from p k i r) line_over)

  output_next : (k i : ℕ) (out : List ℕ) → i < ports_of p → ltb (port_at p i) 256 ≡ false → Goes k (i + 1) out → Goes (suc k) i out
  output_next k i out a f ih m s v r e h plan q z x =
      let w = values_after (grown_of s v) v m.values in
      let l = z.long in
      let b : take (i + 1) w ≡ take i w ++ (0 ∷ []) = ap (λ (j : ℕ). take j w) (add-one i) ∙ take-suc w i 0 (omega arith) ∙ ap (λ (y : ℕ). take i w ++ (y ∷ [])) (z.zeros i a (ltb-false (port_at p i) 256 f)) in
      subst (λ (y : Got (List ℕ)). Finish s m (mask_after (grown_of s v) v) (take i w) out (after y line_over)) (sym (output_values k i r f))
      (one_more s m (mask_after (grown_of s v) v) 0 (take i w) out (values_from p k (i + 1) r)
      (subst (λ (y : List ℕ). Finish s m (mask_after (grown_of s v) v) y out (after (values_from p k (i + 1) r) line_over)) b (ih m s v r e h plan (q ∙ from_past k i f) z x)))

  -- the value of an input is w, before the bytes x
  value_next : (k i : ℕ) (out : List ℕ) → i + suc k ≡ ports_of p → port_at p i < 256 → Goes k (i + 1) out → (m : Machine) (s : State) (v : ℕ) → s.stage ≡ Line → 0 < s.left → take s.plan m.plan ≡ p → Slots (values_after (grown_of s v) v m.values)
      → (w : ℕ) (x : List ℕ)
      → Ended (machine m.state m.actor m.bindings m.plan (values_after (grown_of s v) v m.values) m.outputs m.memory []) (port_of (grown_of s v) (mask_after (grown_of s v) v) (i + 1)) out w x
      → Finish s m (mask_after (grown_of s v) v) (take i (values_after (grown_of s v) v m.values) ++ (w ∷ [])) out (after (values_from p k (i + 1) x) line_over)
  value_next k i out a f ih m s v e h plan z w x y =
      let u = values_after (grown_of s v) v m.values in
      let mask = mask_after (grown_of s v) v in
      let t : State = port_of (grown_of s v) mask (i + 1) in
      let n : Machine = machine m.state m.actor m.bindings m.plan u m.outputs m.memory [] in
      let some : i + 1 ≡ 0 → ⊥ = λ q. omega arith in
      let stored : set u i w ≡ values_after (grown_of t w) w u = values_new (grown_of t w) w u i some (omega arith) in
      let l = z.long in
      let b : take (i + 1) (values_after (grown_of t w) w u) ≡ take i u ++ (w ∷ []) = ap (take (i + 1)) (sym stored) ∙ ap (λ (j : ℕ). take j (set u i w)) (add-one i) ∙ take-suc-set u i w (omega arith) in
      same_finish s m v mask (i + 1) mask u (take i u ++ (w ∷ [])) out (after (values_from p k (i + 1) x) line_over)
      (subst (λ (c : ℕ). Finish t n c (take i u ++ (w ∷ [])) out (after (values_from p k (i + 1) x) line_over)) (sym (mask_old (grown_of t w) w some))
      (subst (λ (c : List ℕ). Finish t n (mask_after (grown_of t w) w) c out (after (values_from p k (i + 1) x) line_over)) b
      (ih n t w x refl h plan (sym (input_first p (ports_of p) (i + 1) refl) ∙ ap (λ (j : ℕ). input_from p j (i + 1)) (let j : ports_of p - (i + 1) ≡ k = omega arith in j)) (subst Slots stored (kept_slots u i w f z)) y)))

  number_next_law : (k i : ℕ) (out : List ℕ) → i + suc k ≡ ports_of p → port_at p i < 256 → Goes k (i + 1) out → (m : Machine) (s : State) (v : ℕ) → s.stage ≡ Line → 0 < s.left → take s.plan m.plan ≡ p → Slots (values_after (grown_of s v) v m.values)
      → (y : Got ℕ) → Numbered (machine m.state m.actor m.bindings m.plan (values_after (grown_of s v) v m.values) m.outputs m.memory []) (port_of (grown_of s v) (mask_after (grown_of s v) v) (i + 1)) out y
      → Finish s m (mask_after (grown_of s v) v) (take i (values_after (grown_of s v) v m.values)) out (after (after y (λ v x. after (values_from p k (i + 1) x) (λ l y. got (v ∷ l) y))) line_over)
  unfolding Finish Numbered after
  number_next_law k i out a f ih m s v e h plan z (lost r) x = x
  number_next_law k i out a f ih m s v e h plan z (got w r) x =
      one_more s m (mask_after (grown_of s v) v) w (take i (values_after (grown_of s v) v m.values)) out (values_from p k (i + 1) r) (value_next k i out a f ih m s v e h plan z w r x)

  blank_then : (k i : ℕ) (out : List ℕ) → i + suc k ≡ ports_of p → port_at p i < 256 → Goes k (i + 1) out → (m : Machine) (s : State) (v : ℕ) (r : List ℕ) → s.stage ≡ Line → 0 < s.left → take s.plan m.plan ≡ p → next_input p s.port ≡ Some i
      → Slots (values_after (grown_of s v) v m.values) → Ended m s out v r
      → Finish s m (mask_after (grown_of s v) v) (take i (values_after (grown_of s v) v m.values)) out (after (byte 32 r (λ r. after (number_up_to 18_446_744_073_709_551_615 r) (λ v x. after (values_from p k (i + 1) x) (λ l y. got (v ∷ l) y)))) line_over)
  unfolding Finish byte after
  blank_then k i out a f ih m s v [] e h plan q z x = line_cut (stated m (grown_of s v)) out e x.rest
  blank_then k i out a f ih m s v (c ∷ r) e h plan q z x = go (eqb 32 c) refl
    where
      go : (t : Bool) → eqb 32 c ≡ t → Finish s m (mask_after (grown_of s v) v) (take i (values_after (grown_of s v) v m.values)) out (after (elim t as (λ (y : Bool). Got (List ℕ)) [ true ↦ after (number_up_to 18_446_744_073_709_551_615 r) (λ v x. after (values_from p k (i + 1) x) (λ l y. got (v ∷ l) y)) | false ↦ lost (c ∷ r) ]) line_over)
      go false g = unblanked m s v e h plan i c r out q (λ y. eqb-false 32 c g (sym y)) x
      go true g =
          number_next_law k i out a f ih m s v e h plan z (number_up_to 18_446_744_073_709_551_615 r)
          (subst (λ (b : ℕ). Numbered (machine m.state m.actor m.bindings m.plan (values_after (grown_of s v) v m.values) m.outputs m.memory []) (port_of (grown_of s v) (mask_after (grown_of s v) v) (i + 1)) out (number_up_to b r)) (sym (most_value (i + 1) (λ y. omega arith)))
          (line_number (machine m.state m.actor m.bindings m.plan (values_after (grown_of s v) v m.values) m.outputs m.memory []) (port_of (grown_of s v) (mask_after (grown_of s v) v) (i + 1)) out r refl h refl
          (blanked m s v e h plan i c r out q (sym (eqb-true 32 c g)) x)))

  input_next : (k i : ℕ) (out : List ℕ) → i + suc k ≡ ports_of p → ltb (port_at p i) 256 ≡ true → Goes k (i + 1) out → Goes (suc k) i out
  input_next k i out a f ih m s v r e h plan q z x =
      subst (λ (y : Got (List ℕ)). Finish s m (mask_after (grown_of s v) v) (take i (values_after (grown_of s v) v m.values)) out (after y line_over)) (sym (input_values k i r f))
      (blank_then k i out a (ltb-true (port_at p i) 256 f) ih m s v r e h plan (q ∙ from_here k i f) z x)

  either_next : (k i : ℕ) (out : List ℕ) → i + suc k ≡ ports_of p → Goes k (i + 1) out → Goes (suc k) i out
  either_next k i out a ih = go (ltb (port_at p i) 256) refl
    where
      go : (t : Bool) → ltb (port_at p i) 256 ≡ t → Goes (suc k) i out
      go true f = input_next k i out a f ih
      go false f = output_next k i out (omega arith) f ih

  pub values_run : (k i : ℕ) (out : List ℕ) → i + k ≡ ports_of p → Goes k i out
  unfolding values_from after input_from
  values_run zero i out a = λ m s v r e h plan q z x. last m s v e h plan i r out q (omega arith) (omega arith) z x
  values_run (suc k) i out a = either_next k i out a (values_run k (i + 1) out (omega arith))

  -- ---- a whole line, by the plan

  -- what is written where a line is read so: the cycle is run with its mask and its values
  unfoldable pub Turns : State → Machine → List ℕ → Got CycleRead → Type 0
  Turns s m out (lost y) = out ≡ is_bad
  Turns s m out (got t y) = Run s m t.mask [] t.values y out

  with_mask : (s : State) (m : Machine) (v : ℕ) (out : List ℕ) (z : Got (List ℕ)) → Finish s m v [] out (after z line_over) → Turns s m out (after z (λ l x. byte 10 x (λ y. got (record { mask = v; values = l }) y)))
  unfolding Finish Turns after byte
  with_mask s m v out (lost y) x = x
  with_mask s m v out (got l []) x = x
  with_mask s m v out (got l (b ∷ r)) x = go (eqb 10 b) x
    where
      go : (t : Bool) → Finish s m v [] out (elim t [ true ↦ got l r | false ↦ lost (b ∷ r) ]) → Turns s m out (elim t [ true ↦ got (record { mask = v; values = l }) r | false ↦ lost (b ∷ r) ])
      go true y = y
      go false y = y

  module _ (m : Machine) (s : State) (out : List ℕ) (e : s.stage ≡ Line) (h : 0 < s.left) (first : s.port ≡ 0) (plan : take s.plan m.plan ≡ p) (z : Slots m.values) where
    mask_is : (v : ℕ) → v ≤ most_of s.port → mask_after (grown_of s v) v ≡ v
    mask_is v k = sym (mask_new (grown_of s v) v first) ∙ (let a = most_mask s.port first in omega arith)

    masked : (y : Got ℕ) → Numbered m s out y → Turns s m out (after y (λ v r. after (values_from p (ports_of p) 0 r) (λ l x. byte 10 x (λ y. got (record { mask = v; values = l }) y))))
    unfolding Turns Numbered after
    masked (lost r) x = x
    masked (got v r) x =
        with_mask s m v out (values_from p (ports_of p) 0 r)
        (subst (λ (k : ℕ). Finish s m k [] out (after (values_from p (ports_of p) 0 r) line_over)) (mask_is v x.small)
        (values_run (ports_of p) 0 out (omega arith) m s v r e h plan
        (ap (next_input p) first ∙ sym (input_first p (ports_of p) 0 refl) ∙ ap (λ (k : ℕ). input_from p k 0) (let k : ports_of p - 0 ≡ ports_of p = omega arith in k))
        (subst Slots (values_old (grown_of s v) v m.values first) z) x))

    pub turn_run : (bs : List ℕ) → s.number ≡ None → From (stated m s) bs out → Turns s m out (plan_turn p bs)
    unfolding plan_turn
    turn_run bs f x = masked (number_up_to 4_294_967_295 bs) (subst (λ (k : ℕ). Numbered m s out (number_up_to k bs)) (sym (most_mask s.port first)) (line_number m s out bs e h f x))
