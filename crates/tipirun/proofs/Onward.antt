-- What a machine writes for some bytes, byte by byte; and once no byte matters, what it writes at the end. Assumes nothing.
use mathlib.Core.Path.{◌≡◌, refl, sym, ap, ap₂, ◌∙◌, subst}
use mathlib.Core.Bool.{Bool, true, false}
use mathlib.Core.List.{List, [], ◌∷◌, ◌++◌, append_assoc}
use Prim.Native.Nat.{ℕ}
use lib.Dec.{ltb}
use Rattle.language.specs.Reading.{Answer}
use Rattle.tipi.specs.Told.{table_after}
use Rattle.figures.specs.declared.Stage.{Stage}
use Rattle.figures.specs.declared.Stage.TheVariants.{ActorCount, Actor, BindingsCount, Bindings, CycleCount, Line, Through, Wrong, Stopped}
use Rattle.figures.specs.declared.State.{State}
use Rattle.input_bytes.specs.Bytes.{Machine, machine, stated, moved_at, moved_of, ended_at, ended_of}
use Rattle.tipirun.specs.Machine.{passed_at, passed_of, whole, at_bindings, plan_passed, passed_by, Stepped, unwritten, preceded, Runs, stays, goes}

-- ---- all that is written from a machine on

pub data From (m : Machine) (bs : List ℕ) : List ℕ → Type 0 where
  from : {r : Machine} → Runs m bs r → From m bs (r.wrote ++ ended_of r)

-- a byte, and then the others
pub record More (m : Machine) (b : ℕ) (bs out : List ℕ) : Type 0 where
  pub to : Machine
  pub stepped : Stepped m b to
  pub after : List ℕ
  pub rest : From (unwritten to) bs after
  pub both : out ≡ to.wrote ++ after

same_end : (g : Stage) (w : List ℕ) (m : Machine) → ended_at g (preceded w m) ≡ ended_at g m
same_end ActorCount w m = refl
same_end Actor w m = refl
same_end BindingsCount w m = refl
same_end Bindings w m = refl
same_end CycleCount w m = refl
same_end Line w m = refl
same_end Through w m = refl
same_end Wrong w m = refl
same_end (Stopped n p) w m = refl

pub quiet_end : (g : Stage) (m : Machine) → ended_at g (unwritten m) ≡ ended_at g m
quiet_end ActorCount m = refl
quiet_end Actor m = refl
quiet_end BindingsCount m = refl
quiet_end Bindings m = refl
quiet_end CycleCount m = refl
quiet_end Line m = refl
quiet_end Through m = refl
quiet_end Wrong m = refl
quiet_end (Stopped n p) m = refl

pub more : {m : Machine} {b : ℕ} {bs out : List ℕ} → From m (b ∷ bs) out → More m b bs out
unfolding ended_of
more (from (goes {t = t} {r = r} s x)) =
    record {
      to = t;
      stepped = s;
      after = r.wrote ++ ended_of r;
      rest = from x;
      both = append_assoc t.wrote r.wrote (ended_of (preceded t.wrote r)) ∙ ap (λ (l : List ℕ). t.wrote ++ (r.wrote ++ l)) (same_end r.state.stage t.wrote r);
    }

pub none : {m : Machine} {out : List ℕ} → From m [] out → out ≡ ended_of m
unfolding ended_of
none (from (stays {m = m})) = quiet_end m.state.stage m

-- ---- a stage that goes on by bytes alone

pub record Quiet (g : Stage) : Type 0 where
  pub keeps : (x : Answer) (s : State) (l : List ℕ) → passed_at x g s l ≡ s
  pub unread : at_bindings g ≡ false

passed_still : (x : Answer) (s : State) (l : List ℕ) (g : Stage) → s.stage ≡ g → Quiet g → passed_of x s l ≡ s
unfolding passed_of
passed_still x s l g e q = go (ltb 0 s.left)
  where
    go : (y : Bool) → elim y [ true ↦ s | false ↦ passed_at x s.stage s l ] ≡ s
    go true = refl
    go false = ap (λ (h : Stage). passed_at x h s l) e ∙ q.keeps x s l

plan_still : (x : Answer) (s : State) (l : List ℕ) (g : Stage) → s.stage ≡ g → Quiet g → plan_passed x s l ≡ l
unfolding plan_passed whole
plan_still x s l g e q = go (ltb 0 s.left)
  where
    go : (y : Bool) → elim (elim y as (λ (z : Bool). Bool) [ true ↦ false | false ↦ at_bindings s.stage ]) [ true ↦ table_after x l | false ↦ l ] ≡ l
    go true = refl
    go false = ap (λ (z : Bool). elim z as (λ (k : Bool). List ℕ) [ true ↦ table_after x l | false ↦ l ]) (ap at_bindings e ∙ q.unread)

pub step_to : (m t : Machine) (b : ℕ) (s : State) (g : Stage) → moved_of m b ≡ stated m s → s.stage ≡ g → Quiet g → Stepped m b t → t ≡ stated m s
unfolding passed_by
step_to m t b s g e f q x =
    sym x.makes ∙ ap (passed_by x.what) e
    ∙ ap₂ (λ (r : State) (l : List ℕ). machine r m.actor m.bindings l m.values m.outputs m.memory []) (passed_still x.what s m.plan g f q) (plan_still x.what s m.plan g f q)

-- what is written after a byte that writes nothing and leads to such a stage
pub on_to : {m : Machine} {b : ℕ} {bs out : List ℕ} (s : State) (g : Stage) → moved_of m b ≡ stated m s → s.stage ≡ g → Quiet g → From m (b ∷ bs) out → From (stated m s) bs out
on_to {m} {b} {bs} {out} s g e f q x =
    let y = more x in
    let t = step_to m y.to b s g e f q y.stepped in
    subst (λ (l : List ℕ). From (stated m s) bs l) (sym (y.both ∙ ap (λ (k : Machine). k.wrote ++ y.after) t)) (subst (λ (k : Machine). From (unwritten k) bs y.after) t y.rest)

-- ---- a stage at which no byte matters

pub record Closed (g : Stage) : Type 0 where
  pub quiet : Quiet g
  pub rests : (m : Machine) (b : ℕ) → moved_at g m b ≡ stated m m.state

pub closed : (bs : List ℕ) (m : Machine) (out : List ℕ) (g : Stage) → m.state.stage ≡ g → Closed g → From m bs out → out ≡ ended_of m
unfolding moved_of ended_of
closed [] m out g e c x = none x
closed (b ∷ bs) m out g e c x =
    closed bs (unwritten m) out g e c (on_to m.state g (ap (λ (h : Stage). moved_at h m b) e ∙ c.rests m b) e c.quiet x) ∙ quiet_end m.state.stage m

pub through_closed : Closed Through
unfolding passed_at moved_at
through_closed = record { quiet = record { keeps = λ x s l. refl; unread = refl }; rests = λ m b. refl }

pub wrong_closed : Closed Wrong
unfolding passed_at moved_at
wrong_closed = record { quiet = record { keeps = λ x s l. refl; unread = refl }; rests = λ m b. refl }

pub stopped_closed : (n p : ℕ) → Closed (Stopped n p)
unfolding passed_at moved_at
stopped_closed n p = record { quiet = record { keeps = λ x s l. refl; unread = refl }; rests = λ m b. refl }
