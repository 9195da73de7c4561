-- The names that a rule may use, by row 6: what is no `let` in force is an input, and no `let` has the name of a port. Assumes nothing.
use mathlib.Core.Path.{◌≡◌, refl, sym, ap, ◌∙◌}
use mathlib.Core.Bool.{Bool, true, false, true≢false}
use mathlib.Core.List.{List, [], ◌∷◌, ◌++◌}
use mathlib.Core.Option.{Option, none, some}
use Prim.Native.Nat.{ℕ, suc}
use native.Mathlib.Omega.{arith}
use Rattle.language.specs.Text.{same, among}
use Rattle.language.specs.Tree.{Port, Val, spelled_of, port_names}
use Rattle.language.specs.Parts.{each}
use Rattle.language.specs.Names.{missing, input_names, output_names}
use Rattle.language.specs.Sizes.{Setting, Let, let_named}
use Rattle.placed.specs.Placed.{Every}
use Rattle.placed.proofs.Every.{append_every}
use Rattle.placed.proofs.Names.{missing_none, every_among}
use Rattle.spelling.proofs.Laws.{same_eq}
use Rattle.settled.specs.Settled.{slots_from}

-- ---- ports

ports_of_law : (P : List ℕ → Type 0) (f : Port → List (List ℕ)) → ((p : Port) → P p.called.spelled → Every P (f p)) → (ps : List Port) → Every (λ n. P n.spelled) (port_names ps) → Every P (each f ps)
unfolding port_names each
ports_of_law P f h [] e = tt
ports_of_law P f h (p ∷ ps) e = append_every P (f p) (each f ps) (h p e.0) (ports_of_law P f h ps e.1)

module _ (known : List (List ℕ)) (ps : List Port) (h : missing known (port_names ps) ≡ []) where
  pub input_known : (n : List ℕ) → among (input_names ps) n ≡ true → among known n ≡ true
  unfolding input_names
  input_known n i = every_among _ (input_names ps) n (ports_of_law _ _ (λ p q. one p p.input q) ps (missing_none known (port_names ps) h)) i
    where
      one : (p : Port) (b : Bool) → among known p.called.spelled ≡ true → Every (λ m. among known m ≡ true) (elim b as (λ (x : Bool). List (List ℕ)) [ true ↦ p.called.spelled ∷ [] | false ↦ [] ])
      one p true q = (q, tt)
      one p false q = tt

  pub output_known : (n : List ℕ) → among (output_names ps) n ≡ true → among known n ≡ true
  unfolding output_names
  output_known n i = every_among _ (output_names ps) n (ports_of_law _ _ (λ p q. one p p.input q) ps (missing_none known (port_names ps) h)) i
    where
      one : (p : Port) (b : Bool) → among known p.called.spelled ≡ true → Every (λ m. among known m ≡ true) (elim b as (λ (x : Bool). List (List ℕ)) [ true ↦ [] | false ↦ p.called.spelled ∷ [] ])
      one p true q = tt
      one p false q = (q, tt)

-- what is no port is no input
pub no_input : (ps : List Port) (n : List ℕ) → among (spelled_of (port_names ps)) n ≡ false → among (input_names ps) n ≡ false
unfolding port_names spelled_of input_names each among
no_input [] n h = refl
no_input (p ∷ ps) n h = go p.input h (no_input ps n)
  where
    here : (t : Bool) → (elim t [ true ↦ true | false ↦ among (spelled_of (port_names ps)) n ]) ≡ false → (among (spelled_of (port_names ps)) n ≡ false → among (input_names ps) n ≡ false) → (elim t [ true ↦ true | false ↦ among (input_names ps) n ]) ≡ false
    here true k r = k
    here false k r = r k

    later : (t : Bool) → (elim t [ true ↦ true | false ↦ among (spelled_of (port_names ps)) n ]) ≡ false → among (spelled_of (port_names ps)) n ≡ false
    later true k = absurd (true≢false k)
    later false k = k

    go : (b : Bool) → among (p.called.spelled ∷ spelled_of (port_names ps)) n ≡ false → (among (spelled_of (port_names ps)) n ≡ false → among (input_names ps) n ≡ false)
        → among ((elim b as (λ (x : Bool). List (List ℕ)) [ true ↦ p.called.spelled ∷ [] | false ↦ [] ]) ++ input_names ps) n ≡ false
    go true k r = here (same p.called.spelled n) k r
    go false k r = r (later (same p.called.spelled n) k)

-- ---- `let`s

-- no `let` in force has the name of an input
pub record Apart (inputs : List (List ℕ)) (lets : List (Let ℕ)) : Type 0 where
  pub none : (n : List ℕ) (k : ℕ) → let_named lets n ≡ some k → among inputs n ≡ false

-- what is no `let` in force is none of the names
pub record Covers (names : List (List ℕ)) (lets : List (Let ℕ)) : Type 0 where
  pub none : (n : List ℕ) → let_named lets n ≡ none → among names n ≡ false

abbrev pub let_of : List ℕ → ℕ → Let ℕ
let_of v k = record { called = v; holds = k }

pub apart_none : (inputs : List (List ℕ)) → Apart inputs []
unfolding let_named
apart_none inputs = record { none = λ n k e. let z : ◌≡◌ {A = ℕ} 0 1 = cc in absurd (omega arith) }

pub covers_none : Covers [] []
unfolding among
covers_none = record { none = λ n e. refl }

pub apart_more : {inputs : List (List ℕ)} {lets : List (Let ℕ)} (v : List ℕ) (j : ℕ) → among inputs v ≡ false → Apart inputs lets → Apart inputs (let_of v j ∷ lets)
unfolding let_named
apart_more {inputs} {lets} v j h p = record { none = λ n k e. go n k (same v n) refl e }
  where
    go : (n : List ℕ) (k : ℕ) (t : Bool) → same v n ≡ t → ◌≡◌ {A = Option ℕ} (elim t [ true ↦ some j | false ↦ let_named lets n ]) (some k) → among inputs n ≡ false
    go n k true q e = ap (among inputs) (sym (same_eq v n q)) ∙ h
    go n k false q e = p.none n k e

pub covers_more : {names : List (List ℕ)} {lets : List (Let ℕ)} (v : List ℕ) (j : ℕ) → Covers names lets → Covers (v ∷ names) (let_of v j ∷ lets)
unfolding let_named among
covers_more {names} {lets} v j p = record { none = λ n e. go n (same v n) e }
  where
    go : (n : List ℕ) (t : Bool) → ◌≡◌ {A = Option ℕ} (elim t [ true ↦ some j | false ↦ let_named lets n ]) none → (elim t [ true ↦ true | false ↦ among names n ]) ≡ false
    go n true e = let z : ◌≡◌ {A = ℕ} 0 1 = cc in absurd (omega arith)
    go n false e = p.none n e

-- all the `val`s of a statement
abbrev pub val_names : List Val → List (List ℕ)
val_names vs = each (λ v. v.called.spelled ∷ []) vs

slots_none : (s : Setting) (k : ℕ) (lets : List (Let ℕ)) (vs : List Val) (n : List ℕ) → let_named (slots_from s k lets vs) n ≡ none → (let_named lets n ≡ none) × (among (val_names vs) n ≡ false)
unfolding slots_from let_named each among
slots_none s k lets [] n e = (e, refl)
slots_none s k lets (v ∷ vs) n e = let q = slots_none s (suc k) (let_of v.called.spelled k ∷ lets) vs n e in go (same v.called.spelled n) q.0 q.1
  where
    go : (t : Bool) → ◌≡◌ {A = Option ℕ} (elim t [ true ↦ some k | false ↦ let_named lets n ]) none → among (val_names vs) n ≡ false
        → (let_named lets n ≡ none) × ((elim t [ true ↦ true | false ↦ among (val_names vs) n ]) ≡ false)
    go true e f = let z : ◌≡◌ {A = ℕ} 0 1 = cc in absurd (omega arith)
    go false e f = (e, f)

pub covers_slots : (s : Setting) (k : ℕ) (vs : List Val) → Covers (val_names vs) (slots_from s k [] vs)
covers_slots s k vs = record { none = λ n e. (slots_none s k [] vs n e).1 }
