-- What a byte leaves at each stage. Assumes nothing.
use mathlib.Core.Path.{◌≡◌, refl, sym, ap, ap₂, ◌∙◌, subst}
use mathlib.Core.Bool.{Bool, true, false}
use mathlib.Core.Logic.{◌⊎◌, inl, inr}
use Rattle.std.specs.Prelude.{Option, Some, None}
use mathlib.Core.List.{List, []}
use Prim.Native.Nat.{ℕ}
use native.Mathlib.Omega.{arith}
use lib.Dec.{eqb}
use lib.ListN.{length, set}
use lib.Seq.{sets}
use Rattle.figures.specs.declared.Stage.{Stage}
use Rattle.figures.specs.declared.Stage.TheVariants.{ActorCount, Actor, BindingsCount, Bindings, CycleCount, Line, Through, Wrong, Stopped}
use Rattle.figures.specs.declared.State.{State}
use Rattle.figures.specs.States.{start_of, wrong_of, takes_of, longer_of}
use Rattle.input_bytes.specs.Texts.{count_byte, actor_byte, bindings_byte}
use Rattle.input_bytes.specs.Lines.{Lined, Left, standing, line_byte}
use Rattle.input_bytes.specs.Bytes.{Machine, machine, lined, stated, moved_at, moved_of, TablesStand}

abbrev pub place_of : State → ℕ
place_of s = s.at

-- ---- what a byte leaves at each stage

module _ (s : State) (a b p v o m : List ℕ) (c : ℕ) where
  at_stage : (g : Stage) → s.stage ≡ g → moved_at g (machine s a b p v o m []) c ≡ moved_of (machine s a b p v o m []) c
  unfolding moved_of
  at_stage g e = ap (λ (y : Stage). moved_at y (machine s a b p v o m []) c) (sym e)

  quiet : (x : Machine) (r : State) (a' b' out : List ℕ) → machine r a' b' p v o m [] ≡ x → r.at ≡ s.at → TablesStand x out s.at 378 (machine r a' b' p v o m []) out
  quiet x r a' b' out e h =
      let n : [] ≡ x.wrote = ap (λ (y : Machine). y.wrote) e in
      record {
        tables = ap (machine r a' b' p v o m) (sym n) ∙ e;
        bytes = ap (sets out s.at) n;
        place = (let l : 0 ≡ length x.wrote = ap length n in omega arith);
        short = (let l : 0 ≡ length x.wrote = ap length n in omega arith);
      }

  count_at_law : (g : Stage) → (count_byte g s c).at ≡ s.at
  unfolding count_byte longer_of
  count_at_law g = go (takes_of s c) s.number (eqb c 10)
    where
      go : (x : Bool) (y : Option ℕ) (z : Bool) → place_of (elim x [ true ↦ longer_of s c | false ↦ elim y [ Some n ↦ elim z [ true ↦ start_of s g n | false ↦ wrong_of s ] | None ↦ wrong_of s ] ]) ≡ s.at
      go true y z = refl
      go false (Some n) true = refl
      go false (Some n) false = refl
      go false None z = refl

  counts : (g h : Stage) (r : State) (out : List ℕ) → moved_at g (machine s a b p v o m []) c ≡ stated (machine s a b p v o m []) (count_byte h s c) → s.stage ≡ g → r ≡ count_byte h s c → TablesStand (moved_of (machine s a b p v o m []) c) out s.at 378 (machine r a b p v o m []) out
  counts g h r out q e f =
      quiet (moved_of (machine s a b p v o m []) c) r a b out (ap (λ (t : State). machine t a b p v o m []) f ∙ sym q ∙ at_stage g e) (ap (λ (t : State). t.at) f ∙ count_at_law h)

  pub counts_actor : (r : State) (out : List ℕ) → s.stage ≡ ActorCount → r ≡ count_byte Actor s c → TablesStand (moved_of (machine s a b p v o m []) c) out s.at 378 (machine r a b p v o m []) out
  unfolding moved_at
  counts_actor r out e f = counts ActorCount Actor r out refl e f

  pub counts_bindings : (r : State) (out : List ℕ) → s.stage ≡ BindingsCount → r ≡ count_byte Bindings s c → TablesStand (moved_of (machine s a b p v o m []) c) out s.at 378 (machine r a b p v o m []) out
  unfolding moved_at
  counts_bindings r out e f = counts BindingsCount Bindings r out refl e f

  pub counts_cycles : (r : State) (out : List ℕ) → s.stage ≡ CycleCount → r ≡ count_byte Line s c → TablesStand (moved_of (machine s a b p v o m []) c) out s.at 378 (machine r a b p v o m []) out
  unfolding moved_at
  counts_cycles r out e f = counts CycleCount Line r out refl e f

  pub keeps_actor : (r : State) (a' out : List ℕ) → s.stage ≡ Actor → r ≡ actor_byte s (length a) → a' ≡ set a s.actor c → TablesStand (moved_of (machine s a b p v o m []) c) out s.at 378 (machine r a' b p v o m []) out
  unfolding moved_at actor_byte
  keeps_actor r a' out e f g =
      quiet (moved_of (machine s a b p v o m []) c) r a' b out (ap₂ (λ (t : State) (l : List ℕ). machine t l b p v o m []) f g ∙ at_stage Actor e) (ap (λ (t : State). t.at) f)

  pub keeps_bindings : (r : State) (b' out : List ℕ) → s.stage ≡ Bindings → r ≡ bindings_byte s (length b) → b' ≡ set b s.bindings c → TablesStand (moved_of (machine s a b p v o m []) c) out s.at 378 (machine r a b' p v o m []) out
  unfolding moved_at bindings_byte
  keeps_bindings r b' out e f g =
      quiet (moved_of (machine s a b p v o m []) c) r a b' out (ap₂ (λ (t : State) (l : List ℕ). machine t a l p v o m []) f g ∙ at_stage Bindings e) (ap (λ (t : State). t.at) f)

  pub lines : (r : State) (v' o' m' out new : List ℕ) → s.stage ≡ Line → Left (line_byte s c p v o m) out s.at (standing r v' o' m') new → TablesStand (moved_of (machine s a b p v o m []) c) out s.at 378 (machine r a b p v' o' m' []) new
  unfolding moved_at
  lines r v' o' m' out new e l =
      let x : Lined = line_byte s c p v o m in
      let q : lined (machine s a b p v o m []) x ≡ moved_of (machine s a b p v o m []) c = at_stage Line e in
      subst (λ (y : Machine). TablesStand y out s.at 378 (machine r a b p v' o' m' []) new) q
      record {
        tables =
            ap₂ (λ (t : State) (w : List ℕ). machine t a b p w o' m' x.wrote) l.stands l.held
            ∙ ap₂ (λ (w u : List ℕ). machine x.state a b p x.values w u x.wrote) l.slots l.cells;
        bytes = l.bytes;
        place = l.place;
        short = l.short;
      }

  rests : (g : Stage) (out : List ℕ) → s.stage ≡ g → moved_at g (machine s a b p v o m []) c ≡ machine s a b p v o m [] → TablesStand (moved_of (machine s a b p v o m []) c) out s.at 378 (machine s a b p v o m []) out
  rests g out e q = quiet (moved_of (machine s a b p v o m []) c) s a b out (sym q ∙ at_stage g e) refl

  -- no more is read
  pub read_no_more : (out : List ℕ) → (s.stage ≡ Through) ⊎ ((s.stage ≡ Wrong) ⊎ ((n : ℕ) × (p : ℕ) × (s.stage ≡ Stopped n p))) → TablesStand (moved_of (machine s a b p v o m []) c) out s.at 378 (machine s a b p v o m []) out
  unfolding moved_at
  read_no_more out (inl e) = rests Through out e refl
  read_no_more out (inr (inl e)) = rests Wrong out e refl
  read_no_more out (inr (inr (x, y, e))) = rests (Stopped x y) out e refl
