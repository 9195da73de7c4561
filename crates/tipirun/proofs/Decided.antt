-- The promises of `step` and `feed` allow one result: what bytes make of a machine is one machine, since two texts are read in one way, and there is one, since they are read in some way. Assumes nothing.
use mathlib.Core.Path.{◌≡◌, refl, sym, ap, subst, ◌∙◌}
use mathlib.Core.Bool.{Bool, true, false}
use mathlib.Core.List.{List, [], ◌∷◌, ◌++◌}
use Prim.Native.Nat.{ℕ}
use lib.Dec.{ltb}
use lib.ListN.{take}
use Rattle.language.specs.Reading.{Answer}
use Rattle.tipi.proofs.Answers.{answers}
use Rattle.tipi.proofs.Theorems.{reads_once}
use Rattle.figures.specs.declared.Stage.{Stage}
use Rattle.figures.specs.declared.Stage.TheVariants.{ActorCount, Actor, BindingsCount, Bindings, CycleCount, Line, Through, Wrong, Stopped}
use Rattle.figures.specs.declared.State.{State}
use Rattle.input_bytes.specs.Bytes.{Machine, moved_of, ended_of}
use Rattle.tipirun.specs.Machine.{passed_at, passed_of, plan_passed, passed_by, at_bindings, whole, Judges, Stepped, unwritten, preceded, Runs, stays, goes, started, Prints, prints}

-- where the texts are not read now, nothing goes by what they would be read as
stage_alike : (x y : Answer) (g : Stage) (s : State) (l : List ℕ) → at_bindings g ≡ false → passed_at x g s l ≡ passed_at y g s l
unfolding passed_at
stage_alike x y ActorCount s l e = refl
stage_alike x y Actor s l e = refl
stage_alike x y BindingsCount s l e = refl
stage_alike x y Bindings s l e = absurd (subst is_false e tt)
  where
    is_false : Bool → Type 0
    is_false true = Unit {0}
    is_false false = ⊥
stage_alike x y CycleCount s l e = refl
stage_alike x y Line s l e = refl
stage_alike x y Through s l e = refl
stage_alike x y Wrong s l e = refl
stage_alike x y (Stopped n p) s l e = refl

state_alike : (x y : Answer) (s : State) (l : List ℕ) → whole s ≡ false → passed_of x s l ≡ passed_of y s l
unfolding whole passed_of
state_alike x y s l e = go (ltb 0 s.left) e
  where
    go : (b : Bool) → ◌≡◌ {A = Bool} (elim b [ true ↦ false | false ↦ at_bindings s.stage ]) false → ◌≡◌ {A = State} (elim b [ true ↦ s | false ↦ passed_at x s.stage s l ]) (elim b [ true ↦ s | false ↦ passed_at y s.stage s l ])
    go true f = refl
    go false f = stage_alike x y s.stage s l f

passed_alike : (x y : Answer) (m : Machine) → whole m.state ≡ false → passed_by x m ≡ passed_by y m
unfolding passed_by plan_passed
passed_alike x y m e =
    let f = state_alike x y m.state m.plan e in
    let p : plan_passed x m.state m.plan ≡ m.plan = rw (e, plan_passed) in
    let q : plan_passed y m.state m.plan ≡ m.plan = rw (e, plan_passed) in
    cc

passed_once : (x y : Answer) (m : Machine) → Judges x m.state m.actor m.bindings → Judges y m.state m.actor m.bindings → passed_by x m ≡ passed_by y m
passed_once x y m h k = go (whole m.state) refl
  where
    go : (b : Bool) → whole m.state ≡ b → passed_by x m ≡ passed_by y m
    go true e = ap (λ (z : Answer). passed_by z m) (reads_once (take m.state.actor m.actor) (take m.state.bindings m.bindings) x y (h.read e) (k.read e))
    go false e = passed_alike x y m e

pub stepped_once : {m t u : Machine} {b : ℕ} → Stepped m b t → Stepped m b u → t ≡ u
stepped_once {m} {b = b} h k = sym h.makes ∙ passed_once h.what k.what (moved_of m b) h.judges k.judges ∙ k.makes

pub runs_once : (bs : List ℕ) (m r s : Machine) → Runs m bs r → Runs m bs s → r ≡ s
runs_once [] m r s stays stays = refl
runs_once (b ∷ bs) m r s (goes {t = t} {r = v} h x) (goes {t = u} {r = w} k y) =
    let e = stepped_once h k in
    let f = runs_once bs (unwritten u) v w (subst (λ (z : Machine). Runs (unwritten z) bs v) e x) y in
    let g : t.wrote ≡ u.wrote = ap (λ (z : Machine). z.wrote) e in
    cc

-- ---- and there is one

stepped_some : (m : Machine) (b : ℕ) → (t : Machine) × Stepped m b t
stepped_some m b =
    let n = moved_of m b in
    let q = answers (take n.state.actor n.actor) (take n.state.bindings n.bindings) in
    (passed_by q.0 n, record { what = q.0; judges = record { read = λ e. q.1 }; makes = refl })

runs_some : (bs : List ℕ) (m : Machine) → (r : Machine) × Runs m bs r
runs_some [] m = (unwritten m, stays)
runs_some (b ∷ bs) m = let s = stepped_some m b in let r = runs_some bs (unwritten s.0) in (preceded s.0.wrote r.0, goes s.1 r.1)

pub prints_some : (input : List ℕ) → (out : List ℕ) × Prints input out
prints_some input = let r = runs_some input started in (r.0.wrote ++ ended_of r.0, prints r.1)
