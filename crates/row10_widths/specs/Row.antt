-- What row 10 is asked of, and what is answered. Assumes nothing: these are definitions.
use Rattle.std.specs.Prelude.{◌≡◌, List, [], ℕ, ◌≤◌, length, take, drop, replicate}
use Rattle.std.proofs.Math.Option.{Option, none, some}
use Rattle.language.specs.Words.{Word}
use Rattle.language.specs.Tree.{Actor}
use Rattle.language.specs.Parts.{each, actor_items, types}
use Rattle.language.specs.Names.{name_faults}
use Rattle.language.specs.Counts.{limit_faults}
use Rattle.language.specs.Types.{type_faults}
use Rattle.language.specs.Bindings.{Bindings}
use Rattle.language.specs.Widths.{wants, Resolved}
use Rattle.tape.specs.Row.{Tells}
use Rattle.bindings.specs.declared.bound.Bound.{Bound}
use Rattle.row09_bindings.specs.Lines.{Binds}
use Rattle.std.specs.Prelude.{Option as Optional, Some, None}

-- how many widths there are, or that none satisfy every type
abbrev pub Answer : Type 0
Answer = Optional ℕ

-- the actor has no fault of rows 6 to 8
pub record Passed (ws : List Word) (a : Actor) : Type 0 where
  pub names : name_faults a ≡ []
  pub limited : limit_faults ws a ≡ []
  pub typed : each type_faults (types (actor_items a)) ≡ []

pub record Asked (text t : List ℕ) (n : ℕ) (bound : Bound) (ws : List Word) (a : Actor) (b : Bindings) : Type 0 where
  pub tells : Tells text t n ws a
  pub binds : Binds bound.text.now bound.table.now bound.lines b
  pub passed : Passed ws a

-- the widths, in the first cells
abbrev pub told : Answer → List ℕ → Option (List ℕ)
told (Some c) cells = some (take c cells)
told None cells = none

-- there are as many cells
abbrev pub Fits : Answer → List ℕ → Type 0
Fits (Some c) cells = c ≤ length cells
Fits None cells = Unit {0}

-- what is answered, and what the cells held before and hold then: the widths or, where there are none, zeros; what stands past them is as it was
pub record Settles (a : Actor) (b : Bindings) (r : Answer) (before cells : List ℕ) : Type 0 where
  pub resolved : Resolved a b (told r cells)
  pub zeros : r ≡ None → take (length (wants a b)) cells ≡ replicate (length (wants a b)) 0
  pub rest : drop (length (wants a b)) cells ≡ drop (length (wants a b)) before
  pub fits : Fits r cells

-- what is answered, and what the cells hold, settles the widths of the actor and the bindings that tape and table hold
abbrev pub SolvedTold : (text t : List ℕ) (n : ℕ) → Bound → Answer → (before cells : List ℕ) → Type 0
SolvedTold text t n bound r before cells =
    (ws : List Word) (a : Actor) (b : Bindings) → Asked text t n bound ws a b → Settles a b r before cells
