-- A text after its count, as document 01 has it and as the machine meets it: byte by byte, as far as its table goes. Assumes nothing.
use mathlib.Core.Path.{◌≡◌, refl, sym, ap, ap₂, ◌∙◌, subst}
use mathlib.Core.Bool.{Bool, true, false}
use Rattle.std.specs.Prelude.{None}
use mathlib.Core.List.{List, [], ◌∷◌, ◌++◌, append_assoc, append-nil}
use Prim.Native.Nat.{ℕ, zero, suc, ◌+◌, ◌-◌, ◌^◌, ◌≤◌, ◌<◌, min}
use native.Mathlib.Omega.{arith}
use native.Mathlib.Numerals.{add-one}
use borrow.Author.Tests.{ltb-true, ltb-false, leb-true, leb-false}
use lib.Dec.{eqb, leb, ltb}
use lib.ListN.{length, take, drop, set, length-append, length-set}
use lib.Seq.{take_all, take-append-le, take-suc-set, set_out}
use Rattle.language.specs.Bindings.{Got, got, lost, after, byte}
use Rattle.language.specs.Worked.{is_bad, any_number, counted}
use Rattle.language.specs.Reading.{Answer}
use Rattle.figures.specs.declared.Stage.{Stage}
use Rattle.figures.specs.declared.Stage.TheVariants.{Actor, Bindings}
use Rattle.figures.specs.declared.State.{State}
use Rattle.figures.specs.States.{start_of}
use Rattle.input_bytes.specs.Texts.{kept_of, actor_byte, bindings_byte}
use Rattle.input_bytes.specs.Bytes.{Machine, machine, stated, moved_at, moved_of, ended_at}
use Rattle.tipirun.specs.Machine.{passed_by, Judges, unwritten}
use Rattle.input_bytes.proofs.Counting.{kept_in_law, kept_out}
use Rattle.tipirun.proofs.Stages.{left_on, left_plan}
use Rattle.input_bytes.proofs.Endings.{ended_bad}
use Rattle.tipirun.proofs.Onward.{From, more, none}
use Rattle.tipirun.proofs.CountLines.{Kind, Enters, Counted, count_run}
use Rattle.input_bytes.proofs.Numbers.{line_end, rest_length, number_length}

-- ---- a text as far as its table goes

pub record Kept (table : List ℕ) (k limit : ℕ) (text : List ℕ) : Type 0 where
  pub long : length table ≡ limit
  pub count : k ≡ min (length text) limit
  pub part : take k table ≡ take limit text

pub kept_none : (table : List ℕ) (limit : ℕ) → length table ≡ limit → Kept table 0 limit []
kept_none table limit e = record { long = e; count = omega arith; part = sym (take_all limit [] (omega arith)) }

pub kept_next : (table : List ℕ) (k limit b : ℕ) (text : List ℕ) → Kept table k limit text → Kept (set table k b) (kept_of k (length table)) limit (text ++ (b ∷ []))
kept_next table k limit b text x = go (ltb k limit) refl
  where
    go : (y : Bool) → ltb k limit ≡ y → Kept (set table k b) (kept_of k (length table)) limit (text ++ (b ∷ []))
    go true q =
        let h : k < limit = ltb-true k limit q in
        let n = length-append text (b ∷ []) in
        let l = x.long in
        let c = x.count in
        let e : k + 1 ≡ kept_of k (length table) = kept_in_law k (length table) (omega arith) in
        record {
          long = length-set table k b ∙ x.long;
          count = sym e ∙ (omega arith);
          part =
              ap (λ (i : ℕ). take i (set table k b)) (sym e ∙ add-one k) ∙ take-suc-set table k b (omega arith)
              ∙ ap (λ (r : List ℕ). r ++ (b ∷ [])) (x.part ∙ take_all limit text (omega arith)) ∙ sym (take_all limit (text ++ (b ∷ [])) (omega arith));
        }
    go false q =
        let h : limit ≤ k = ltb-false k limit q in
        let n = length-append text (b ∷ []) in
        let l = x.long in
        let c = x.count in
        let e : k ≡ kept_of k (length table) = kept_out k (length table) (omega arith) in
        record {
          long = length-set table k b ∙ x.long;
          count = sym e ∙ (omega arith);
          part = ap₂ take (sym e) (set_out table k b (omega arith)) ∙ x.part ∙ sym (take-append-le limit text (b ∷ []) (omega arith));
        }

-- ---- a stage at which the bytes of a text are kept

pub record TextKind (g : Stage) (table : Machine → List ℕ) (count : State → ℕ) : Type 0 where
  pub stage : (m : Machine) (b : ℕ) → (moved_at g m b).state.stage ≡ g
  pub left : (m : Machine) (b : ℕ) → (moved_at g m b).state.left ≡ m.state.left - 1
  pub wrote : (m : Machine) (b : ℕ) → (moved_at g m b).wrote ≡ []
  pub stored : (m : Machine) (b : ℕ) → table (moved_at g m b) ≡ set (table m) (count m.state) b
  pub counts : (m : Machine) (b : ℕ) → count (moved_at g m b).state ≡ kept_of (count m.state) (length (table m))
  pub quiet : (m : Machine) → table (unwritten m) ≡ table m
  pub bad : (m : Machine) → ended_at g m ≡ is_bad

pub actor_text : TextKind Actor (λ m. m.actor) (λ s. s.actor)
unfolding moved_at actor_byte
actor_text =
    record {
      stage = λ m b. refl;
      left = λ m b. refl;
      wrote = λ m b. refl;
      stored = λ m b. refl;
      counts = λ m b. refl;
      quiet = λ m. refl;
      bad = λ m. refl;
    }

pub bindings_text : TextKind Bindings (λ m. m.bindings) (λ s. s.bindings)
unfolding moved_at bindings_byte
bindings_text =
    record {
      stage = λ m b. refl;
      left = λ m b. refl;
      wrote = λ m b. refl;
      stored = λ m b. refl;
      counts = λ m b. refl;
      quiet = λ m. refl;
      bad = λ m. refl;
    }

-- bytes are to come: nothing is over yet
waits : (x : Answer) (m : Machine) → 0 < m.state.left → unwritten (passed_by x m) ≡ unwritten m
unfolding passed_by
waits x m h = ap₂ (λ (r : State) (l : List ℕ). machine r m.actor m.bindings l m.values m.outputs m.memory []) (sym (left_on x m.state m.plan h)) (sym (left_plan x m.state m.plan h))

pub still_comes : (m : Machine) (bs out : List ℕ) → 0 < m.state.left → Enters m bs out → From (unwritten m) bs out
still_comes m bs out h x = subst (λ (k : Machine). From k bs out) (waits x.what m h) x.rest

pub enters_by : (m t : Machine) (b : ℕ) (bs out : List ℕ) → moved_of m b ≡ t → t.wrote ≡ [] → From m (b ∷ bs) out → Enters t bs out
unfolding passed_by
enters_by m t b bs out q w x =
    let y = more x in
    let e : y.to ≡ passed_by y.stepped.what t = sym y.stepped.makes ∙ ap (passed_by y.stepped.what) q in
    record {
      what = y.stepped.what;
      judges = subst (λ (z : Machine). Judges y.stepped.what z.state z.actor z.bindings) q y.stepped.judges;
      rest =
          subst (λ (l : List ℕ). From (unwritten (passed_by y.stepped.what t)) bs l) (sym (y.both ∙ ap (λ (z : Machine). z.wrote ++ y.after) e ∙ ap (λ (l : List ℕ). l ++ y.after) w))
          (subst (λ (z : Machine). From (unwritten z) bs y.after) e y.rest);
    }

module _ {g : Stage} {table : Machine → List ℕ} {count : State → ℕ} (k : TextKind g table count) (limit : ℕ) (P : Machine → Type 0) (same : (m : Machine) (b : ℕ) → P m → P (moved_at g (unwritten m) b)) where
  -- the text is whole, and what is to come is this
  pub record Whole (text bs out : List ℕ) : Type 0 where
    pub at : Machine
    pub stage : at.state.stage ≡ g
    pub left : at.state.left ≡ 0
    pub kept : Kept (table at) (count at.state) limit text
    pub holds : P at
    pub enters : Enters at bs out

  next : (m : Machine) (b : ℕ) (bs out : List ℕ) → m.state.stage ≡ g → 0 < m.state.left → Enters m (b ∷ bs) out → Enters (moved_at g (unwritten m) b) bs out
  unfolding moved_of
  next m b bs out e h x = enters_by (unwritten m) (moved_at g (unwritten m) b) b bs out (ap (λ (y : Stage). moved_at y (unwritten m) b) e) (k.wrote (unwritten m) b) (still_comes m (b ∷ bs) out h x)

  next_kept : (m : Machine) (b : ℕ) (text : List ℕ) → Kept (table m) (count m.state) limit text → Kept (table (moved_at g (unwritten m) b)) (count (moved_at g (unwritten m) b).state) limit (text ++ (b ∷ []))
  next_kept m b text x =
      subst (λ (l : List ℕ). Kept l (count (moved_at g (unwritten m) b).state) limit (text ++ (b ∷ []))) (sym (k.stored (unwritten m) b ∙ ap (λ (l : List ℕ). set l (count m.state) b) (k.quiet m)))
      (subst (λ (i : ℕ). Kept (set (table m) (count m.state) b) i limit (text ++ (b ∷ []))) (sym (k.counts (unwritten m) b ∙ ap (λ (l : List ℕ). kept_of (count m.state) (length l)) (k.quiet m)))
      (kept_next (table m) (count m.state) limit b text x))

  pub text_run : (l : ℕ) (bs : List ℕ) (m : Machine) (text out : List ℕ) → m.state.stage ≡ g → m.state.left ≡ l → Kept (table m) (count m.state) limit text → P m → l ≤ length bs → Enters m bs out
      → Whole (text ++ take l bs) (drop l bs) out
  text_run zero bs m text out e f h p q x = record { at = m; stage = e; left = f; kept = subst (Kept (table m) (count m.state) limit) (sym (append-nil text)) h; holds = p; enters = x }
  text_run (suc l) [] m text out e f h p q x = absurd (omega arith)
  text_run (suc l) (b ∷ bs) m text out e f h p q x =
      subst (λ (t : List ℕ). Whole t (drop l bs) out) (append_assoc text (b ∷ []) (take l bs))
      (text_run l bs (moved_at g (unwritten m) b) (text ++ (b ∷ [])) out (k.stage (unwritten m) b) (k.left (unwritten m) b ∙ (omega arith)) (next_kept m b text h) (same m b p) (omega arith) (next m b bs out e (omega arith) x))

  pub text_bad : (l : ℕ) (bs : List ℕ) (m : Machine) (out : List ℕ) → m.state.stage ≡ g → m.state.left ≡ l → length bs < l → Enters m bs out → out ≡ is_bad
  text_bad zero bs m out e f q x = absurd (omega arith)
  text_bad (suc l) [] m out e f q x = none (still_comes m [] out (omega arith) x) ∙ sym (ended_bad (unwritten m) g e (k.bad (unwritten m)))
  text_bad (suc l) (b ∷ bs) m out e f q x =
      text_bad l bs (moved_at g (unwritten m) b) out (k.stage (unwritten m) b) (k.left (unwritten m) b ∙ (omega arith)) (omega arith) (next m b bs out e (omega arith) x)

  -- ---- a count and its text

  -- what is written where a text is read so
  unfoldable pub Texted : List ℕ → Got (List ℕ) → Type 0
  Texted out (lost r) = out ≡ is_bad
  Texted out (got t r) = Whole t r out

  module _ {g₀ : Stage} (c : Kind g₀ g) (m : Machine) (out : List ℕ) (h : (n : ℕ) → Kept (table (stated m (start_of m.state g n))) (count (start_of m.state g n)) limit []) (p : (n : ℕ) → P (stated m (start_of m.state g n))) where
    last : (z : Bool) (n : ℕ) (r : List ℕ) → leb n (length r) ≡ z → length r < 18_446_744_073_709_551_615 → Enters (stated m (start_of m.state g (min n 18_446_744_073_709_551_615))) r out
        → Texted out (elim z [ true ↦ got (take n r) (drop n r) | false ↦ lost r ])
    unfolding Texted
    last true n r e q x =
        let a = leb-true n (length r) e in
        text_run n r (stated m (start_of m.state g (min n 18_446_744_073_709_551_615))) [] out refl (omega arith) (h (min n 18_446_744_073_709_551_615)) (p (min n 18_446_744_073_709_551_615)) a x
    last false n r e q x =
        let a = leb-false n (length r) e in
        text_bad (min n 18_446_744_073_709_551_615) r (stated m (start_of m.state g (min n 18_446_744_073_709_551_615))) out refl refl (omega arith) x

    newline : (z : Bool) (n b : ℕ) (r : List ℕ) → length r < 18_446_744_073_709_551_615 → Counted m g out (elim z as (λ (y : Bool). Got ℕ) [ true ↦ got n r | false ↦ lost (b ∷ r) ])
        → Texted out (elim z [ true ↦ elim (leb n (length r)) [ true ↦ got (take n r) (drop n r) | false ↦ lost r ] | false ↦ lost (b ∷ r) ])
    unfolding Texted Counted
    newline true n b r q x = last (leb n (length r)) n r refl q x
    newline false n b r q x = x

    by_number : (y : Got ℕ) → rest_length y < 18_446_744_073_709_551_615 → Counted m g out (after y line_end)
        → Texted out (after y (λ n r. byte 10 r (λ x. elim (leb n (length x)) [ true ↦ got (take n x) (drop n x) | false ↦ lost x ])))
    unfolding Texted Counted after byte rest_length
    by_number (lost r) q x = x
    by_number (got n []) q x = x
    by_number (got n (b ∷ r)) q x = newline (eqb 10 b) n b r (omega arith) x

    pub counted_run : (bs : List ℕ) → m.state.stage ≡ g₀ → m.state.number ≡ None → length bs < 18_446_744_073_709_551_615 → From m bs out → Texted out (counted bs)
    unfolding counted any_number
    counted_run bs e i q x = by_number (any_number bs) (let a = number_length bs (10 ^ length bs) in omega arith) (count_run c bs m out e i x)
