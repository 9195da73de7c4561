-- What a byte does to the state and the tables, stage by stage, and makes the program write; and what is written at the end. Assumes nothing: these are definitions.
use Rattle.std.specs.Prelude.{◌≡◌, List, [], ◌∷◌, ℕ, ◌+◌, ◌≤◌, length, take, set}
use Rattle.std.proofs.lemmas.List.Edits.{sets}
use Rattle.language.specs.Worked.{line, is_bad}
use Rattle.figures.specs.declared.Stage.{Stage}
use Rattle.figures.specs.declared.Stage.TheVariants.{ActorCount, Actor, BindingsCount, Bindings, CycleCount, Line, Through, Wrong, Stopped}
use Rattle.figures.specs.declared.State.{State}
use Rattle.input_bytes.specs.declared.tables.Tables.{Tables}
use Rattle.input_bytes.specs.Texts.{count_byte, actor_byte, bindings_byte}
use Rattle.input_bytes.specs.Lines.{Lined, line_byte, cells_of}

-- the state with its tables, and what a byte made it write
pub record Machine : Type 0 where
  pub state : State
  pub actor : List ℕ
  pub bindings : List ℕ
  pub plan : List ℕ
  pub values : List ℕ
  pub outputs : List ℕ
  pub memory : List ℕ
  pub wrote : List ℕ

abbrev pub machine : State → List ℕ → List ℕ → List ℕ → List ℕ → List ℕ → List ℕ → List ℕ → Machine
machine s a b p v o m w = record { state = s; actor = a; bindings = b; plan = p; values = v; outputs = o; memory = m; wrote = w }

-- the state with the tables, nothing written
abbrev pub machine_of : State → Tables → Machine
machine_of s t = machine s t.actor t.bindings t.plan t.values t.outputs t.memory []

abbrev pub lined : Machine → Lined → Machine
lined m x = machine x.state m.actor m.bindings m.plan x.values x.outputs x.memory x.wrote

abbrev pub stated : Machine → State → Machine
stated m s = machine s m.actor m.bindings m.plan m.values m.outputs m.memory []

-- ---- a byte at each stage

unfoldable pub moved_at : Stage → Machine → ℕ → Machine
moved_at ActorCount m b = stated m (count_byte Actor m.state b)
moved_at Actor m b = machine (actor_byte m.state (length m.actor)) (set m.actor m.state.actor b) m.bindings m.plan m.values m.outputs m.memory []
moved_at BindingsCount m b = stated m (count_byte Bindings m.state b)
moved_at Bindings m b = machine (bindings_byte m.state (length m.bindings)) m.actor (set m.bindings m.state.bindings b) m.plan m.values m.outputs m.memory []
moved_at CycleCount m b = stated m (count_byte Line m.state b)
moved_at Line m b = lined m (line_byte m.state b m.plan m.values m.outputs m.memory)
moved_at Through m b = stated m m.state
moved_at Wrong m b = stated m m.state
moved_at (Stopped n p) m b = stated m m.state

unfoldable pub moved_of : Machine → ℕ → Machine
moved_of m b = moved_at m.state.stage m b

-- with these bytes written
abbrev pub writing : List ℕ → Machine → Machine
writing w m = machine m.state m.actor m.bindings m.plan m.values m.outputs m.memory w

-- `after` and the table of bytes are what a function leaves: the machine x, whose bytes wait to be written
pub record TablesStand (x : Machine) (old : List ℕ) (at most : ℕ) (after : Machine) (out : List ℕ) : Type 0 where
  pub tables : writing x.wrote after ≡ x
  pub bytes : out ≡ sets old at x.wrote
  pub place : after.state.at ≡ at + length x.wrote
  pub short : length x.wrote ≤ most

-- ---- the end: "input not in this form `bad`", "number and place on one line", "then all cells on one line"

abbrev pub ended_at : Stage → Machine → List ℕ
ended_at ActorCount m = is_bad
ended_at Actor m = is_bad
ended_at BindingsCount m = is_bad
ended_at Bindings m = is_bad
ended_at CycleCount m = is_bad
ended_at Line m = is_bad
ended_at Through m = line (take (cells_of (take m.state.plan m.plan)) m.memory)
ended_at Wrong m = is_bad
ended_at (Stopped n p) m = line (n ∷ p ∷ [])

unfoldable pub ended_of : Machine → List ℕ
ended_of m = ended_at m.state.stage m
