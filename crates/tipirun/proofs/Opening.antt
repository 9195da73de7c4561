-- A run up to its cycles: what is written is `bad`, or a refusal's line, or comes from a plan in its table, as document 01 has it. Assumes nothing.
use mathlib.Core.Path.{◌≡◌, refl, sym, ap, ap₂, ◌∙◌, subst}
use Rattle.std.specs.Prelude.{None}
use mathlib.Core.Bool.{Bool, true, false}
use mathlib.Core.List.{List, [], ◌∷◌}
use Prim.Native.Nat.{ℕ, ◌≤◌, ◌<◌}
use native.Mathlib.Omega.{arith}
use borrow.Author.Tests.{lt-leb, leb-true, leb-false}
use lib.Dec.{leb}
use lib.ListN.{length, take, replicate, length-take, length-replicate}
use lib.Seq.{take_all}
use Rattle.language.specs.Bindings.{Got, got, lost, after}
use Rattle.language.specs.Reading.{Answer, refused, accepted, early, Reads, reads_early, reads_late}
use Rattle.language.specs.Sizes.{Setting}
use Rattle.language.specs.declared.Text.{Text}
use Rattle.language.specs.declared.Text.TheVariants.{Actor as InActor}
use Rattle.language.specs.Worked.{is_bad, line, Input, counted, input_of, answered}
use Rattle.plan_of.specs.PlanOf.{plan_of}
use Rattle.tipi.specs.Told.{answer_of, table_after}
use Rattle.plan_answer.specs.Answered.{made_of}
use Rattle.plan_answer.specs.Answered.{Answer as Told}
use Rattle.plan_answer.specs.Answered.{Plan, Refused}
use Rattle.figures.specs.declared.Stage.TheVariants.{Actor, BindingsCount, Bindings, CycleCount, Stopped}
use Rattle.figures.specs.declared.State.{State}
use Rattle.figures.specs.States.{start_of}
use Rattle.tipirun.specs.Reading.{planned_of, judged_of}
use Rattle.input_bytes.specs.Texts.{actor_byte, bindings_byte}
use Rattle.input_bytes.specs.Bytes.{Machine, machine, moved_at}
use Rattle.tipirun.specs.Machine.{passed_by, unwritten, started, Prints, prints}
use Rattle.tipirun.proofs.Stages.{over_actor, over_bindings, over_plan, same_plan, whole_at}
use Rattle.input_bytes.proofs.Endings.{ended_refused}
use Rattle.tipirun.proofs.Onward.{From, from, closed, stopped_closed}
use Rattle.tipirun.proofs.CountLines.{actor_count, bindings_count}
use Rattle.tipirun.proofs.TextRuns.{Kept, kept_none, actor_text, bindings_text, Whole, Texted, counted_run}
use Rattle.input_bytes.proofs.Numbers.{rest_length, counted_length}

-- ---- a text past its limit is refused, however much of it is kept

long_actor : (a b c : List ℕ) → 8_192 < length a → early (take 8_193 a) c ≡ early a b
unfolding early
long_actor a b c h =
    let n = length-take 8_193 a in
    simp (early, lt-leb (length (take 8_193 a)) 8_192 (omega arith), lt-leb (length a) 8_192 h)

long_bindings : (a b : List ℕ) → leb (length a) 8_192 ≡ true → 2_048 < length b → early a (take 2_049 b) ≡ early a b
unfolding early
long_bindings a b p h =
    let n = length-take 2_049 b in
    simp (early, p, lt-leb (length (take 2_049 b)) 2_048 (omega arith), lt-leb (length b) 2_048 h)

early_same : (a b : List ℕ) → early (take 8_193 a) (take 2_049 b) ≡ early a b
early_same a b = go (leb (length a) 8_192) refl (leb (length b) 2_048) refl
  where
    go : (x : Bool) → leb (length a) 8_192 ≡ x → (y : Bool) → leb (length b) 2_048 ≡ y → early (take 8_193 a) (take 2_049 b) ≡ early a b
    go false p y q = long_actor a b (take 2_049 b) (leb-false (length a) 8_192 p)
    go true p true q =
        let h = leb-true (length a) 8_192 p in
        let k = leb-true (length b) 2_048 q in
        ap₂ early (take_all 8_193 a (omega arith)) (take_all 2_049 b (omega arith))
    go true p false q =
        let h = leb-true (length a) 8_192 p in
        ap (λ (l : List ℕ). early l (take 2_049 b)) (take_all 8_193 a (omega arith)) ∙ long_bindings a b p (leb-false (length b) 2_048 q)

reads_same : {x : Answer} (a b : List ℕ) → Reads (take 8_193 a) (take 2_049 b) x → Reads a b x
reads_same a b (reads_early e) = reads_early (sym (early_same a b) ∙ e)
reads_same a b (reads_late ws e r) = reads_late ws (sym (early_same a b) ∙ e) r

-- ---- the tables before any cycle

pub record Fresh (m : Machine) : Type 0 where
  pub plan : length m.plan ≡ 16_384
  pub values : m.values ≡ replicate 16 0
  pub outputs : m.outputs ≡ replicate 16 0
  pub memory : m.memory ≡ replicate 256 0

-- while the actor is read, and while the bindings are
record Before (m : Machine) : Type 0 where
  fresh : Fresh m
  table : length m.bindings ≡ 2_049
  none : m.state.bindings ≡ 0

record Between (actor : List ℕ) (m : Machine) : Type 0 where
  fresh : Fresh m
  kept : Kept m.actor m.state.actor 8_193 actor

before_same : (m : Machine) (b : ℕ) → Before m → Before (moved_at Actor (unwritten m) b)
unfolding moved_at actor_byte
before_same m b x = record { fresh = record { plan = x.fresh.plan; values = x.fresh.values; outputs = x.fresh.outputs; memory = x.fresh.memory }; table = x.table; none = x.none }

between_same : (actor : List ℕ) (m : Machine) (b : ℕ) → Between actor m → Between actor (moved_at Bindings (unwritten m) b)
unfolding moved_at bindings_byte
between_same actor m b x = record { fresh = record { plan = x.fresh.plan; values = x.fresh.values; outputs = x.fresh.outputs; memory = x.fresh.memory }; kept = x.kept }

-- ---- the cycles are to come

pub record Ready (s : Setting) (m : Machine) : Type 0 where
  pub stage : m.state.stage ≡ CycleCount
  pub number : m.state.number ≡ None
  pub long : m.state.plan ≡ length (plan_of s)
  pub before : List ℕ
  pub room : length before ≡ 16_384
  pub plan : m.plan ≡ table_after (accepted s) before
  pub values : m.values ≡ replicate 16 0
  pub outputs : m.outputs ≡ replicate 16 0
  pub memory : m.memory ≡ replicate 256 0

-- what is written for two texts and what follows them
pub data Opens (actor bindings rest out : List ℕ) : Type 0 where
  refuses : (n p : ℕ) (t : Text) → Reads actor bindings (refused n t p) → out ≡ line (n ∷ p ∷ []) → Opens actor bindings rest out
  no_room : (s : Setting) → Reads actor bindings (accepted s) → 16_384 < length (plan_of s) → out ≡ line (13 ∷ 0 ∷ []) → Opens actor bindings rest out
  runs_on : (s : Setting) (m : Machine) → Reads actor bindings (accepted s) → length (plan_of s) ≤ 16_384 → Ready s m → From m rest out → Opens actor bindings rest out

-- both texts are whole, and told as y
stopped_writes : (m : Machine) (n p : ℕ) (rest out : List ℕ) → m.state.stage ≡ Stopped n p → From m rest out → out ≡ line (n ∷ p ∷ [])
stopped_writes m n p rest out e x = closed rest m out (Stopped n p) e (stopped_closed n p) x ∙ sym (ended_refused m n p e)

module _ (actor bindings rest out : List ℕ) (m : Machine) (e : m.state.stage ≡ Bindings) (z : m.state.left ≡ 0) (f : Fresh m) where
  passed_is : (x : Answer) → passed_by x m ≡ machine (judged_of (answer_of x m.plan) m.state) m.actor m.bindings (table_after x m.plan) m.values m.outputs m.memory m.wrote
  unfolding passed_by
  passed_is x =
      ap₂ (λ (r : State) (l : List ℕ). machine r m.actor m.bindings l m.values m.outputs m.memory m.wrote)
      (sym (over_bindings x m.state m.plan (omega arith) e)) (sym (over_plan x m.state m.plan (omega arith) e))

  entered : (x : Answer) → From (unwritten (passed_by x m)) rest out → From (machine (judged_of (answer_of x m.plan) m.state) m.actor m.bindings (table_after x m.plan) m.values m.outputs m.memory []) rest out
  entered x y = subst (λ (k : Machine). From (unwritten k) rest out) (passed_is x) y

  made : (b : Bool) (s : Setting) → leb (length (plan_of s)) (length m.plan) ≡ b → answer_of (accepted s) m.plan ≡ elim b [ true ↦ Plan (length (plan_of s)) | false ↦ Refused 13 InActor 0 ]
  unfolding answer_of made_of
  made b s q = ap (λ (y : Bool). elim y as (λ (k : Bool). Told) [ true ↦ Plan (length (plan_of s)) | false ↦ Refused 13 InActor 0 ]) q

  told_as : (x : Answer) (y : Told) → answer_of x m.plan ≡ y → From (unwritten (passed_by x m)) rest out → From (machine (judged_of y m.state) m.actor m.bindings (table_after x m.plan) m.values m.outputs m.memory []) rest out
  told_as x y q w = subst (λ (k : Told). From (machine (judged_of k m.state) m.actor m.bindings (table_after x m.plan) m.values m.outputs m.memory []) rest out) q (entered x w)

  pub opened : (x : Answer) → Reads actor bindings x → From (unwritten (passed_by x m)) rest out → Opens actor bindings rest out
  unfolding answer_of judged_of answered
  opened (refused n t p) r w = refuses n p t r (stopped_writes _ n p rest out refl (told_as (refused n t p) (Refused n t p) refl w))
  opened (accepted s) r w = go (leb (length (plan_of s)) (length m.plan)) refl
    where
      go : (b : Bool) → leb (length (plan_of s)) (length m.plan) ≡ b → Opens actor bindings rest out
      go true q =
          let h = leb-true (length (plan_of s)) (length m.plan) q in
          let l = f.plan in
          runs_on s (machine (planned_of m.state (length (plan_of s))) m.actor m.bindings (table_after (accepted s) m.plan) m.values m.outputs m.memory []) r (omega arith)
          (record { stage = refl; number = refl; long = refl; before = m.plan; room = f.plan; plan = refl; values = f.values; outputs = f.outputs; memory = f.memory })
          (told_as (accepted s) (Plan (length (plan_of s))) (made true s q) w)
      go false q =
          let h = leb-false (length (plan_of s)) (length m.plan) q in
          let l = f.plan in
          no_room s r (omega arith) (stopped_writes _ 13 0 rest out refl (told_as (accepted s) (Refused 13 InActor 0) (made false s q) w))

-- ---- the two texts, one after the other

-- what is written for an input
pub data Opening (input out : List ℕ) : Type 0 where
  bad : {r : List ℕ} → input_of input ≡ lost r → out ≡ is_bad → Opening input out
  texts : {i : Input} {r : List ℕ} → input_of input ≡ got i r → Opens i.actor i.bindings r out → Opening input out

-- the bindings are whole
both_whole : (actor bindings rest out : List ℕ) → Whole bindings_text 2_049 (Between actor) (between_same actor) bindings rest out → Opens actor bindings rest out
both_whole actor bindings rest out w =
    let m = w.at in
    let x = w.enters.what in
    let r = w.enters.judges.read (whole_at x m.state Bindings (let z = w.left in omega arith) w.stage) in
    let q : Reads (take 8_193 actor) (take 2_049 bindings) x =
    subst (λ (l : List ℕ). Reads l (take 2_049 bindings) x) w.holds.kept.part (subst (λ (l : List ℕ). Reads (take m.state.actor m.actor) l x) w.kept.part r)
    in
    opened actor bindings rest out m w.stage w.left w.holds.fresh x (reads_same actor bindings q) w.enters.rest

-- the actor is whole
module _ (actor rest out : List ℕ) (w : Whole actor_text 8_193 Before before_same actor rest out) where
  now_at : Machine
  now_at = machine (start_of w.at.state BindingsCount 0) w.at.actor w.at.bindings w.at.plan w.at.values w.at.outputs w.at.memory []

  goes_on_law : From now_at rest out
  unfolding now_at passed_by
  goes_on_law =
      let x = w.enters.what in
      let z : w.at.state.left ≤ 0 = (let h = w.left in omega arith) in
      subst (λ (k : Machine). From k rest out)
      (ap₂ (λ (r : State) (l : List ℕ). machine r w.at.actor w.at.bindings l w.at.values w.at.outputs w.at.memory [])
      (sym (over_actor x w.at.state w.at.plan z w.stage)) (sym (same_plan x w.at.state w.at.plan Actor z w.stage refl)))
      w.enters.rest

  then_bindings : length rest < 18_446_744_073_709_551_615 → Texted bindings_text 2_049 (Between actor) (between_same actor) out (counted rest)
  unfolding now_at
  then_bindings h =
      counted_run bindings_text 2_049 (Between actor) (between_same actor) bindings_count now_at out
      (λ n. subst (λ (i : ℕ). Kept w.at.bindings i 2_049 []) (sym w.holds.none) (kept_none w.at.bindings 2_049 w.holds.table))
      (λ n. record { fresh = record { plan = w.holds.fresh.plan; values = w.holds.fresh.values; outputs = w.holds.fresh.outputs; memory = w.holds.fresh.memory }; kept = w.kept })
      rest refl refl h goes_on_law

begins : (input out : List ℕ) → length input < 18_446_744_073_709_551_615 → From started input out → Texted actor_text 8_193 Before before_same out (counted input)
unfolding started
begins input out h x =
    counted_run actor_text 8_193 Before before_same actor_count started out
    (λ n. kept_none (replicate 8_193 0) 8_193 (length-replicate {A = ℕ} 8_193 0))
    (λ n. record { fresh = record { plan = length-replicate {A = ℕ} 16_384 0; values = refl; outputs = refl; memory = refl }; table = length-replicate {A = ℕ} 2_049 0; none = refl })
    input refl refl h x

second : (input actor r out : List ℕ) → counted input ≡ got actor r → (y : Got (List ℕ)) → counted r ≡ y → Texted bindings_text 2_049 (Between actor) (between_same actor) out y → Opening input out
unfolding Texted input_of after
second input actor r out e (lost s) f x = bad (ap (λ (z : Got (List ℕ)). after z (λ a r. after (counted r) (λ b x. got (record { actor = a; bindings = b }) x))) e ∙ ap (λ (z : Got (List ℕ)). after z (λ b x. got (record { actor = actor; bindings = b }) x)) f) x
second input actor r out e (got bindings s) f x =
    texts (ap (λ (z : Got (List ℕ)). after z (λ a r. after (counted r) (λ b x. got (record { actor = a; bindings = b }) x))) e ∙ ap (λ (z : Got (List ℕ)). after z (λ b x. got (record { actor = actor; bindings = b }) x)) f)
    (both_whole actor bindings s out x)

first : (input out : List ℕ) → length input < 18_446_744_073_709_551_615 → (y : Got (List ℕ)) → counted input ≡ y → Texted actor_text 8_193 Before before_same out y → Opening input out
unfolding Texted input_of after rest_length
first input out h (lost s) e x = bad (ap (λ (z : Got (List ℕ)). after z (λ a r. after (counted r) (λ b x. got (record { actor = a; bindings = b }) x))) e) x
first input out h (got actor r) e x =
    second input actor r out e (counted r) refl
    (then_bindings actor r out x (let l = counted_length input in let q : rest_length (counted input) ≡ length r = ap rest_length e in omega arith))

pub opening : (input out : List ℕ) → length input < 18_446_744_073_709_551_615 → Prints input out → Opening input out
opening input _ h (prints x) = first input _ h (counted input) refl (begins input _ h (from x))
