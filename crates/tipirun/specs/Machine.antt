-- The machine that the program is: what each byte does to the state and the tables and makes it write, and what the end of input does. Assumes nothing: these are definitions.
use Rattle.std.specs.Prelude.{◌≡◌, Bool, true, false, List, [], ◌∷◌, ◌++◌, ℕ, ◌+◌, ◌*◌, ltb, length, take, replicate}
use Rattle.language.specs.Limits.{limits}
use Rattle.language.specs.Reading.{Answer, Reads}
use Rattle.tipi.specs.Told.{answer_of, table_after}
use Rattle.figures.specs.declared.Stage.{Stage}
use Rattle.figures.specs.declared.Stage.TheVariants.{ActorCount, Actor, BindingsCount, Bindings, CycleCount, Line, Through, Wrong, Stopped}
use Rattle.figures.specs.declared.State.{State}
use Rattle.figures.specs.States.{start_of, begin_of}
use Rattle.tipirun.specs.Reading.{judged_of}
use Rattle.cycle_line.specs.Shown.{line_bytes}
use Rattle.input_bytes.specs.Bytes.{Machine, machine, moved_of, TablesStand, ended_of}

-- ---- a stage of which nothing is to come is over; x is what the two texts are read as

unfoldable pub passed_at : Answer → Stage → State → List ℕ → State
passed_at x ActorCount s l = s
passed_at x Actor s l = start_of s BindingsCount 0
passed_at x BindingsCount s l = s
passed_at x Bindings s l = judged_of (answer_of x l) s
passed_at x CycleCount s l = s
passed_at x Line s l = start_of s Through 0
passed_at x Through s l = s
passed_at x Wrong s l = s
passed_at x (Stopped r p) s l = s

-- `l` is the table of the plan
unfoldable pub passed_of : Answer → State → List ℕ → State
passed_of x s l = elim (ltb 0 s.left) [ true ↦ s | false ↦ passed_at x s.stage s l ]

-- both texts are whole, and are read now
abbrev pub at_bindings : Stage → Bool
at_bindings ActorCount = false
at_bindings Actor = false
at_bindings BindingsCount = false
at_bindings Bindings = true
at_bindings CycleCount = false
at_bindings Line = false
at_bindings Through = false
at_bindings Wrong = false
at_bindings (Stopped n p) = false

unfoldable pub whole : State → Bool
whole s = elim (ltb 0 s.left) [ true ↦ false | false ↦ at_bindings s.stage ]

unfoldable pub plan_passed : Answer → State → List ℕ → List ℕ
plan_passed x s l = elim (whole s) [ true ↦ table_after x l | false ↦ l ]

-- x is what the texts are read as, if they are read now
pub record Judges (x : Answer) (s : State) (actor bindings : List ℕ) : Type 0 where
  pub read : whole s ≡ true → Reads (take s.actor actor) (take s.bindings bindings) x

-- what a state at which nothing is to come goes on with, and the table of the plan
pub record StagePassed (s : State) (actor bindings plan : List ℕ) (r : State) (after : List ℕ) : Type 0 where
  pub what : Answer
  pub judges : Judges what s actor bindings
  pub stands : r ≡ passed_of what s plan
  pub table : after ≡ plan_passed what s plan

-- ---- one byte, and some bytes

unfoldable pub passed_by : Answer → Machine → Machine
passed_by x t = machine (passed_of x t.state t.plan) t.actor t.bindings (plan_passed x t.state t.plan) t.values t.outputs t.memory t.wrote

-- t is what a byte makes of m
pub record Stepped (m : Machine) (b : ℕ) (t : Machine) : Type 0 where
  pub what : Answer
  pub judges : Judges what (moved_of m b).state (moved_of m b).actor (moved_of m b).bindings
  pub makes : passed_by what (moved_of m b) ≡ t

-- what was written is written; and with what was written before
abbrev pub unwritten : Machine → Machine
unwritten m = machine m.state m.actor m.bindings m.plan m.values m.outputs m.memory []

abbrev pub preceded : List ℕ → Machine → Machine
preceded w m = machine m.state m.actor m.bindings m.plan m.values m.outputs m.memory (w ++ m.wrote)

-- r is what some bytes make of m, with all that is written on the way
pub data Runs : Machine → List ℕ → Machine → Type 0 where
  stays : {m : Machine} → Runs m [] (unwritten m)
  goes : {m t r : Machine} {b : ℕ} {bs : List ℕ} → Stepped m b t → Runs (unwritten t) bs r → Runs m (b ∷ bs) (preceded t.wrote r)

-- `after` and the table of bytes are what a byte, or some bytes, leave of `before`
pub record Steps (before : Machine) (b : ℕ) (old : List ℕ) (after : Machine) (out : List ℕ) : Type 0 where
  pub to : Machine
  pub stepped : Stepped before b to
  pub stands : TablesStand to old before.state.at line_bytes after out

pub record Feeds (before : Machine) (bytes old : List ℕ) (after : Machine) (out : List ℕ) : Type 0 where
  pub to : Machine
  pub runs : Runs before bytes to
  pub stands : TablesStand to old before.state.at (line_bytes * length bytes) after out

-- "the plan table holds 16,384 numbers"
abbrev pub room : ℕ
room = 16_384

-- "memory starts at zeros"
unfoldable pub started : Machine
started = machine begin_of (replicate (limits.actor + 1) 0) (replicate (limits.bindings + 1) 0) (replicate room 0) (replicate limits.ports 0) (replicate limits.ports 0) (replicate limits.cells 0) []

-- all that is written for an input
pub data Prints (input : List ℕ) : List ℕ → Type 0 where
  prints : {r : Machine} → Runs started input r → Prints input (r.wrote ++ ended_of r)
