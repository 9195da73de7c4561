-- One byte, and bytes one after the other. Assumes nothing.
use mathlib.Core.Path.{◌≡◌, refl, sym, ap, ap₂, ◌∙◌, subst}
use mathlib.Core.Bool.{Bool, true, false}
use mathlib.Core.List.{List, [], ◌∷◌, ◌++◌, append_assoc, append-nil}
use Prim.Native.Nat.{ℕ, ◌+◌, ◌*◌, ◌≤◌, ◌<◌}
use native.Mathlib.Omega.{arith}
use native.Mathlib.Numerals.{add-one}
use lib.Dec.{ltb}
use lib.ListN.{length, get_or, drop, length-append, drop_of_length-le}
use lib.Seq.{sets, drop-cons}
use Rattle.language.specs.Reading.{Answer}
use Rattle.tipi.specs.Told.{answer_of}
use Rattle.plan_answer.specs.Answered.{Answer as Told}
use Rattle.std.specs.Prelude.{Ok, Err}
use Rattle.figures.specs.declared.Stage.{Stage}
use Rattle.figures.specs.declared.Stage.TheVariants.{ActorCount, Actor, BindingsCount, Bindings, CycleCount, Line, Through, Wrong, Stopped}
use Rattle.figures.specs.declared.State.{State}
use Rattle.tipirun.specs.Reading.{judged_of}
use Rattle.input_bytes.specs.Bytes.{Machine, machine, moved_of, writing, TablesStand}
use Rattle.tipirun.specs.Machine.{passed_at, passed_of, passed_by, Judges, StagePassed, Steps, unwritten, preceded, Runs, stays, goes, Feeds}
use Rattle.figures.proofs.Bytes.{sets_append}
use Rattle.input_bytes.proofs.Bytewise.{place_of}

-- ---- one byte

judged_keeps : (y : Told) (s : State) → (judged_of y s).at ≡ s.at
unfolding judged_of
judged_keeps (Ok n) s = refl
judged_keeps (Err why) s = refl

stage_at : (x : Answer) (g : Stage) (s : State) (l : List ℕ) → (passed_at x g s l).at ≡ s.at
unfolding passed_at
stage_at x ActorCount s l = refl
stage_at x Actor s l = refl
stage_at x BindingsCount s l = refl
stage_at x Bindings s l = judged_keeps (answer_of x l) s
stage_at x CycleCount s l = refl
stage_at x Line s l = refl
stage_at x Through s l = refl
stage_at x Wrong s l = refl
stage_at x (Stopped r p) s l = refl

passed_at_law : (x : Answer) (s : State) (l : List ℕ) → (passed_of x s l).at ≡ s.at
unfolding passed_of
passed_at_law x s l = go (ltb 0 s.left)
  where
    go : (y : Bool) → place_of (elim y [ true ↦ s | false ↦ passed_at x s.stage s l ]) ≡ s.at
    go true = refl
    go false = stage_at x s.stage s l

pub one_byte : (m t : Machine) (c : ℕ) (r : State) (old p out : List ℕ) → TablesStand (moved_of m c) old m.state.at 378 t out → StagePassed t.state t.actor t.bindings t.plan r p
    → Steps m c old (machine r t.actor t.bindings p t.values t.outputs t.memory []) out
unfolding passed_by
one_byte m t c r old p out x y =
    let w : List ℕ = (moved_of m c).wrote in
    let q : passed_by y.what (writing w t) ≡ passed_by y.what (moved_of m c) = ap (passed_by y.what) x.tables in
    record {
      to = passed_by y.what (moved_of m c);
      stepped = record { what = y.what; judges = subst (λ (z : Machine). Judges y.what z.state z.actor z.bindings) x.tables y.judges; makes = refl };
      stands = record {
        tables = ap₂ (λ (z : State) (l : List ℕ). machine z t.actor t.bindings l t.values t.outputs t.memory w) y.stands y.table ∙ q;
        bytes = x.bytes;
        place = ap (λ (z : State). z.at) y.stands ∙ passed_at_law y.what t.state t.plan ∙ x.place;
        short = x.short;
      };
    }

-- ---- bytes one after the other: once the rest has run, all has

-- i bytes have made s of m
pub record Running (m : Machine) (bytes old : List ℕ) (i : ℕ) (s : Machine) (out : List ℕ) : Type 0 where
  pub wrote : List ℕ
  pub rest : (r : Machine) → Runs (unwritten s) (drop i bytes) r → Runs m bytes (preceded wrote r)
  pub written : out ≡ sets old m.state.at wrote
  pub place : s.state.at ≡ m.state.at + length wrote
  pub short : length wrote ≤ 378 * i

pub starts : (m : Machine) (bytes out : List ℕ) → Running (unwritten m) bytes out 0 m out
starts m bytes out = record { wrote = []; rest = λ r x. x; written = refl; place = omega arith; short = omega arith }

pub more : (m s t : Machine) (bytes old out new : List ℕ) (i : ℕ) → i < length bytes → Running m bytes old i s out → Steps (unwritten s) (get_or bytes i 0) out t new → Running m bytes old (i + 1) t new
more m s t bytes old out new i h x y =
    let w : List ℕ = y.to.wrote in
    let e : unwritten y.to ≡ unwritten t = sym (ap unwritten y.stands.tables) in
    let d : get_or bytes i 0 ∷ drop (i + 1) bytes ≡ drop i bytes = ap (λ (k : ℕ). get_or bytes i 0 ∷ drop k bytes) (add-one i) ∙ sym (drop-cons bytes i 0 h) in
    record {
      wrote = x.wrote ++ w;
      rest =
          λ r z.
          let n = subst (λ (l : List ℕ). Runs (unwritten s) l (preceded w r)) d (goes y.stepped (subst (λ (k : Machine). Runs k (drop (i + 1) bytes) r) (sym e) z)) in
          subst (λ (l : List ℕ). Runs m bytes (writing l r)) (sym (append_assoc x.wrote w r.wrote)) (x.rest (preceded w r) n);
      written = y.stands.bytes ∙ ap (λ (l : List ℕ). sets l s.state.at w) x.written ∙ sym (sets_append old m.state.at s.state.at x.wrote w x.place);
      place = (let l = length-append x.wrote w in let f = x.place in let g = y.stands.place in omega arith);
      short = (let l = length-append x.wrote w in let f = x.short in let g = y.stands.short in omega arith);
    }

pub all_fed : (m s : Machine) (bytes old out : List ℕ) (i : ℕ) → length bytes ≤ i → i ≤ length bytes → Running m bytes old i s out → Feeds m bytes old s out
all_fed m s bytes old out i h k x =
    let w : List ℕ = x.wrote in
    let n = append-nil w in
    record {
      to = writing (w ++ []) s;
      runs = x.rest (unwritten s) (subst (λ (l : List ℕ). Runs (unwritten s) l (unwritten s)) (sym (drop_of_length-le bytes h)) stays);
      stands = record {
        tables = refl;
        bytes = x.written ∙ ap (sets old m.state.at) (sym n);
        place = x.place ∙ ap (λ (l : List ℕ). m.state.at + length l) (sym n);
        short = (let l = ap length n in let f = x.short in omega arith);
      };
    }
