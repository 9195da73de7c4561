-- What rows 6 to 9 answer, and what they go by. Assumes nothing: these are definitions.
use Rattle.std.specs.Prelude.{◌≡◌, ℕ, ◌≤◌, List, length, Some, None, Result, Ok, Err}
use Rattle.language.specs.declared.Text.{Text}
use Rattle.language.specs.Limits.{limits}
use Rattle.language.specs.Words.{Word}
use Rattle.language.specs.Tree.{Actor}
use Rattle.language.specs.Bindings.{Bindings}
use Rattle.language.specs.Reading.{Early, stopped, through, judged}
use Rattle.tape.specs.Row.{Tells}
use Rattle.bindings.specs.declared.bound.Bound.{Bound}
use Rattle.row09_bindings.specs.Lines.{Binds}
use Rattle.words.specs.Found.{Place}
use Rattle.language.specs.declared.Refusal.{Refusal}

-- the first fault, or none
abbrev pub Verdict : Type 0
Verdict = Result (Unit {0}) Refusal

abbrev pub Stopped : ℕ → Text → ℕ → Verdict
Stopped row text place = Err (record { row = row; text = text; place = place })

abbrev pub Through : Verdict
Through = Ok tt

-- rows 6 to 9
unfoldable pub verdict_of : Early → Verdict
verdict_of (stopped n t p) = Stopped n t p
verdict_of (through a b) = Through

-- one row, by the place that it tells
unfoldable pub verdict_by : ℕ → Text → Place → Verdict
verdict_by n t (Some p) = Stopped n t p
verdict_by n t None = Through

-- a tape and a table that hold an actor and its bindings
pub record TextsHeld (text t : List ℕ) (n : ℕ) (bound : Bound) (ws : List Word) (a : Actor) (b : Bindings) : Type 0 where
  pub short : length text ≤ limits.actor
  pub tells : Tells text t n ws a
  pub binds : Binds bound.text.now bound.table.now bound.lines b

-- the verdict is that of the actor and the bindings that they hold
abbrev pub FirstTold : (text t : List ℕ) (n : ℕ) → Bound → Verdict → Type 0
FirstTold text t n bound r = (ws : List Word) (a : Actor) (b : Bindings) → TextsHeld text t n bound ws a b → r ≡ verdict_of (judged ws a b)
