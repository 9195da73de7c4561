-- What the stages of a run come to, case by case. Assumes nothing.
use mathlib.Core.Logic.{◌⊎◌, inl, inr}
use mathlib.Core.Path.{◌≡◌, refl, sym, ap, ◌∙◌, subst}
use mathlib.Core.Bool.{Bool, true, false, false≢true}
use mathlib.Core.List.{List}
use Prim.Native.Nat.{ℕ, ◌≤◌, ◌<◌, min}
use borrow.Author.Tests.{lt-ltb, le-ltb}
use lib.ListN.{length, take}
use Rattle.language.specs.Reading.{Answer, refused, Reads}
use Rattle.language.specs.declared.Text.{Text}
use Rattle.language.specs.declared.Text.TheVariants.{Actor as InActor}
use Rattle.figures.specs.declared.Stage.{Stage}
use Rattle.figures.specs.declared.Stage.TheVariants.{ActorCount, Actor, BindingsCount, Bindings, CycleCount, Line, Through, Wrong, Stopped}
use Rattle.figures.specs.declared.State.{State}
use Rattle.figures.specs.States.{start_of}
use Rattle.tipirun.specs.Reading.{planned_of, judged_of, Judged}
use Rattle.tipi.specs.Told.{answer_of, table_after, Read}
use Rattle.plan_answer.specs.Answered.{Answer as Told}
use Rattle.plan_answer.specs.Answered.{Plan}
use Rattle.std.specs.Prelude.{Err}
use Rattle.language.specs.declared.Refusal.{Refusal}
use Rattle.tipirun.specs.Machine.{passed_at, passed_of, whole, at_bindings, plan_passed, Judges, StagePassed}
use Rattle.input_bytes.proofs.Endings.{take_least}

-- ---- a stage that is over

module _ (x : Answer) (s : State) where
  pub left_on : (n : List ℕ) → 0 < s.left → s ≡ passed_of x s n
  unfolding passed_of
  left_on n h = sym (simp (passed_of, lt-ltb 0 s.left h))

  pub left_plan : (l : List ℕ) → 0 < s.left → l ≡ plan_passed x s l
  unfolding plan_passed whole
  left_plan l h = sym (simp (plan_passed, whole, lt-ltb 0 s.left h))

  over : (n : List ℕ) (g : Stage) → s.left ≤ 0 → s.stage ≡ g → passed_at x g s n ≡ passed_of x s n
  unfolding passed_of
  over n g h e = ap (λ (y : Stage). passed_at x y s n) (sym e) ∙ sym (simp (passed_of, le-ltb 0 s.left h))

  read_is : (b : Bool) (l : List ℕ) → whole s ≡ b → elim b [ true ↦ table_after x l | false ↦ l ] ≡ plan_passed x s l
  unfolding plan_passed
  read_is b l e = sym (ap (λ (y : Bool). elim y [ true ↦ table_after x l | false ↦ l ]) e)

  pub whole_at : (g : Stage) → s.left ≤ 0 → s.stage ≡ g → whole s ≡ at_bindings g
  unfolding whole
  whole_at g h e = simp (whole, le-ltb 0 s.left h) (ap at_bindings e)

  pub over_actor : (n : List ℕ) → s.left ≤ 0 → s.stage ≡ Actor → start_of s BindingsCount 0 ≡ passed_of x s n
  unfolding passed_at
  over_actor n h e = over n Actor h e

  pub over_bindings : (n : List ℕ) → s.left ≤ 0 → s.stage ≡ Bindings → judged_of (answer_of x n) s ≡ passed_of x s n
  unfolding passed_at
  over_bindings n h e = over n Bindings h e

  pub over_line : (n : List ℕ) → s.left ≤ 0 → s.stage ≡ Line → start_of s Through 0 ≡ passed_of x s n
  unfolding passed_at
  over_line n h e = over n Line h e

  pub over_plan : (l : List ℕ) → s.left ≤ 0 → s.stage ≡ Bindings → table_after x l ≡ plan_passed x s l
  over_plan l h e = read_is true l (whole_at Bindings h e)

  pub same_plan : (l : List ℕ) (g : Stage) → s.left ≤ 0 → s.stage ≡ g → at_bindings g ≡ false → l ≡ plan_passed x s l
  same_plan l g h e f = read_is false l (whole_at g h e ∙ f)

  -- at any other stage
  pub over_same : (n : List ℕ) (g : Stage) → s.left ≤ 0 → s.stage ≡ g → passed_at x g s n ≡ s → s ≡ passed_of x s n
  over_same n g h e f = sym f ∙ over n g h e

not_whole : (s : State) → 0 < s.left → whole s ≡ false
unfolding whole
not_whole s h = simp (whole, lt-ltb 0 s.left h)

-- where nothing is read any answer will do
pub some_answer : Answer
some_answer = refused 0 InActor 0

idle : (s : State) (a b : List ℕ) → whole s ≡ false → Judges some_answer s a b
idle s a b e = record { read = λ t. absurd (false≢true (sym e ∙ t)) }

pub read_on : (s : State) (a b p : List ℕ) → 0 < s.left → StagePassed s a b p s p
read_on s a b p h = record { what = some_answer; judges = idle s a b (not_whole s h); stands = left_on some_answer s p h; table = left_plan some_answer s p h }

-- at a stage that reads no text
pub unread : (s r : State) (a b p : List ℕ) (g : Stage) → s.left ≤ 0 → s.stage ≡ g → at_bindings g ≡ false → r ≡ passed_of some_answer s p → StagePassed s a b p r p
unread s r a b p g h e f q = record { what = some_answer; judges = idle s a b (whole_at some_answer s g h e ∙ f); stands = q; table = same_plan some_answer s p g h e f }

-- where the texts are read
pub over_read : (s r : State) (a b p p' : List ℕ) → s.left ≤ 0 → s.stage ≡ Bindings → Judged (take s.actor a) (take s.bindings b) s p r p' → StagePassed s a b p r p'
over_read s r a b p p' h e j =
    record {
      what = j.what;
      judges = record { read = λ t. j.reads };
      stands = j.stands ∙ over_bindings j.what s p h e;
      table = j.table ∙ over_plan j.what s p h e;
    }

-- at a stage that stays as it is
pub rested : (s : State) (a b p : List ℕ) → s.left ≤ 0
    → (s.stage ≡ ActorCount) ⊎ ((s.stage ≡ BindingsCount) ⊎ ((s.stage ≡ CycleCount) ⊎ ((s.stage ≡ Through) ⊎ ((s.stage ≡ Wrong) ⊎ ((n : ℕ) × (m : ℕ) × (s.stage ≡ Stopped n m))))))
    → StagePassed s a b p s p
unfolding passed_at
rested s a b p h (inl e) = unread s s a b p ActorCount h e refl (over_same some_answer s p ActorCount h e refl)
rested s a b p h (inr (inl e)) = unread s s a b p BindingsCount h e refl (over_same some_answer s p BindingsCount h e refl)
rested s a b p h (inr (inr (inl e))) = unread s s a b p CycleCount h e refl (over_same some_answer s p CycleCount h e refl)
rested s a b p h (inr (inr (inr (inl e)))) = unread s s a b p Through h e refl (over_same some_answer s p Through h e refl)
rested s a b p h (inr (inr (inr (inr (inl e))))) = unread s s a b p Wrong h e refl (over_same some_answer s p Wrong h e refl)
rested s a b p h (inr (inr (inr (inr (inr (n, m, e)))))) = unread s s a b p (Stopped n m) h e refl (over_same some_answer s p (Stopped n m) h e refl)

-- what the two texts are told as
pub told : (a b p p' : List ℕ) (s r : State) (y : Told) (k m : ℕ) → k ≡ min s.actor (length a) → m ≡ min s.bindings (length b) → Read (take k a) (take m b) y p p' → r ≡ judged_of y s
    → Judged (take s.actor a) (take s.bindings b) s p r p'
told a b p p' s r y k m ek em x e =
    record {
      what = x.what;
      reads = subst (λ (l : List ℕ). Reads l (take s.bindings b) x.what) (take_least s.actor k a ek) (subst (λ (l : List ℕ). Reads (take k a) l x.what) (take_least s.bindings m b em) x.reads);
      stands = e ∙ ap (λ (z : Told). judged_of z s) x.told.answer;
      table = x.told.table;
    }

pub told_plan : (s r : State) (y : Told) (n : ℕ) → y ≡ Plan n → r ≡ planned_of s n → r ≡ judged_of y s
unfolding judged_of
told_plan s r y n e f = f ∙ ap (λ (z : Told). judged_of z s) (sym e)

pub told_refused : (s r : State) (y : Told) (why : Refusal) → y ≡ Err why → r ≡ start_of s (Stopped why.row why.place) 0 → r ≡ judged_of y s
unfolding judged_of
told_refused s r y why e f = f ∙ ap (λ (z : Told). judged_of z s) (sym e)
