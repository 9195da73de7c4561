-- A cycle's line as it is read, the cycle, and the line that is written for it. Assumes nothing: these are definitions.
use Rattle.std.specs.Prelude.{◌≡◌, true, false, Option, None, Some, List, [], ◌++◌, ℕ, zero, suc, ◌+◌, ◌-◌, ◌%◌, ◌≤◌, min, eqb, ltb, length, take, drop, set}
use Rattle.std.proofs.lemmas.List.Edits.{sets}
use Rattle.language.specs.Limits.{limits}
use Rattle.language.specs.Meaning.{Outcome}
use Rattle.plan.specs.Layout.{port_at, memory_count, cells_before}
use Rattle.turn.specs.Cycle.{cycle_of}
use Rattle.turn.specs.declared.Done.{Done}
use Rattle.cycle_line.specs.Shown.{line_bytes, ports_of, shown_of}
use Rattle.figures.specs.declared.Stage.TheVariants.{Line}
use Rattle.figures.specs.declared.State.{State}
use Rattle.figures.specs.States.{wrong_of, port_of, line_takes, longer_of}

-- the cells of a plan, as far as the table goes
unfoldable pub cells_of : List ℕ → ℕ
cells_of p = min (cells_before p (memory_count p)) limits.cells

-- the first input among k ports from i on
unfoldable pub input_from : List ℕ → ℕ → ℕ → Option ℕ
input_from p zero i = None
input_from p (suc k) i = elim (ltb (port_at p i) 256) [ true ↦ Some i | false ↦ input_from p k (i + 1) ]

unfoldable pub next_input : List ℕ → ℕ → Option ℕ
next_input p i = input_from p (ports_of p - i) i

-- what a byte of a line leaves: the state, the tables, and what is written
pub record Lined : Type 0 where
  pub state : State
  pub values : List ℕ
  pub outputs : List ℕ
  pub memory : List ℕ
  pub wrote : List ℕ

-- with nothing written
abbrev pub standing : State → List ℕ → List ℕ → List ℕ → Lined
standing s values outputs memory = record { state = s; values = values; outputs = outputs; memory = memory; wrote = [] }

-- `after` and the table of bytes are what a function leaves, by what a byte of a line leaves
pub record Left (x : Lined) (old : List ℕ) (at : ℕ) (after : Lined) (out : List ℕ) : Type 0 where
  pub stands : after.state ≡ x.state
  pub held : after.values ≡ x.values
  pub slots : after.outputs ≡ x.outputs
  pub cells : after.memory ≡ x.memory
  pub bytes : out ≡ sets old at x.wrote
  pub place : after.state.at ≡ at + length x.wrote
  pub short : length x.wrote ≤ line_bytes

-- the tables that lines are read into have room
pub record Roomy (values outputs memory out : List ℕ) (at : ℕ) : Type 0 where
  pub ports : limits.ports ≤ length values
  pub slots : limits.ports ≤ length outputs
  pub cells : limits.cells ≤ length memory
  pub room : at + line_bytes ≤ length out

-- ---- a number of the line has ended as n

unfoldable pub mask_after : State → ℕ → ℕ
mask_after s n = elim (eqb s.port 0) [ true ↦ n % 4_294_967_296 | false ↦ s.mask ]

unfoldable pub values_after : State → ℕ → List ℕ → List ℕ
values_after s n v = elim (eqb s.port 0) [ true ↦ v | false ↦ set v (s.port - 1) n ]

-- a cycle of the plan over the first places of the tables
unfoldable pub done_of : List ℕ → ℕ → List ℕ → List ℕ → List ℕ → Outcome
done_of p mask values outputs memory = cycle_of p mask (take (ports_of p) values) (take (cells_of p) memory) (take (ports_of p) outputs)

unfoldable pub outputs_after : List ℕ → Outcome → List ℕ → List ℕ
outputs_after p o outputs = o.outputs ++ drop (ports_of p) outputs

unfoldable pub memory_after : List ℕ → Outcome → List ℕ → List ℕ
memory_after p o memory = o.memory ++ drop (cells_of p) memory

-- what a cycle leaves, by its outcome
pub record Ran (p : List ℕ) (o : Outcome) (old_outputs old_memory : List ℕ) (r : Done) (outputs memory : List ℕ) : Type 0 where
  pub answer : r.answer ≡ o.answer
  pub count : r.present ≡ o.count
  pub slots : outputs ≡ outputs_after p o old_outputs
  pub cells : memory ≡ memory_after p o old_memory

abbrev pub turned_state : State → ℕ → ℕ → State
turned_state s mask n = record { stage = Line; number = None; left = s.left - 1; port = 0; mask = mask; actor = s.actor; bindings = s.bindings; plan = s.plan; at = s.at + n }

unfoldable pub turned_of : State → ℕ → List ℕ → List ℕ → List ℕ → List ℕ → Lined
turned_of s mask p values outputs memory =
    let o : Outcome = done_of p mask values outputs memory in
    let w : List ℕ = shown_of p o.answer o.count (outputs_after p o outputs) in
    record { state = turned_state s mask (length w); values = values; outputs = outputs_after p o outputs; memory = memory_after p o memory; wrote = w }

-- a blank before the next input's value, a newline after the last
unfoldable pub number_ends : State → ℕ → ℕ → List ℕ → List ℕ → List ℕ → List ℕ → Lined
number_ends s n b p values outputs memory =
    elim (next_input p s.port) [
      | Some i ↦ elim (eqb b 32) [
        | true ↦ standing (port_of s (mask_after s n) (i + 1)) (values_after s n values) outputs memory
        | false ↦ standing (wrong_of s) values outputs memory
      ]
      | None ↦ elim (eqb b 10) [
        | true ↦ turned_of s (mask_after s n) p (values_after s n values) outputs memory
        | false ↦ standing (wrong_of s) values outputs memory
      ]
    ]

-- `plan` is the table, of which the state says how much the plan is
unfoldable pub line_byte : State → ℕ → List ℕ → List ℕ → List ℕ → List ℕ → Lined
line_byte s b plan values outputs memory =
    elim (line_takes s b) [
      | true ↦ standing (longer_of s b) values outputs memory
      | false ↦ elim s.number [ Some n ↦ number_ends s n b (take s.plan plan) values outputs memory | None ↦ standing (wrong_of s) values outputs memory ]
    ]
