-- What is proved of the plan of an accepted actor, and of any plan: the statements. Assumes nothing: these are definitions.
use Rattle.std.specs.Prelude.{◌≡◌, true, false, List, [], ℕ, ◌+◌, ◌*◌, ◌^◌, ◌≤◌, ◌<◌, length, get_or}
use Rattle.language.specs.Text.{among}
use Rattle.language.specs.Words.{Word}
use Rattle.language.specs.Tree.{spelled_of}
use Rattle.language.specs.Names.{input_names}
use Rattle.language.specs.Values.{bit_of}
use Rattle.language.specs.Sizes.{Setting}
use Rattle.language.specs.Meaning.{Outcome, Turn, cell_widths, cycle, run}
use Rattle.plan.specs.Layout.{port_count, port_at, memory_width_at}
use Rattle.plan.specs.Sound.{sound_of}
use Rattle.turn.specs.Cycle.{cycle_of}
use Rattle.cycle.specs.Run.{result, run_of, cycles_of, turns_in, left_by}
use Rattle.placed.specs.Placed.{Every}
use Rattle.plan_of.specs.PlanOf.{plan_of}

-- the tables of a run: a value and an output slot for each port, and two numbers for answer and count, for each mask; a number for each cell
pub record RunTables (s : Setting) (masks values memory outputs answers : List ℕ) : Type 0 where
  pub inputs : length values ≡ length masks * length s.actor.signature
  pub slots : length outputs ≡ length masks * length s.actor.signature
  pub told : length answers ≡ length masks * 2
  pub cells : length memory ≡ length (cell_widths s)

-- of the actor of a setting, read from these words
pub record Planned (ws : List Word) (s : Setting) : Type 0 where
  -- "Every text that passes all tests before 13 has a sound plan, of at most 64 numbers and eight for each word of its actor", of 32-bit numbers
  pub sound : sound_of (plan_of s) ≡ true
  pub short : length (plan_of s) ≤ 64 + 8 * length ws
  pub small : Every (λ n. n < 2 ^ 32) (plan_of s)
  -- its widths are the setting's (that those are the least ones is said by `Reads`, and on the page of the crate tipi): the ports in the order of the signature, and then the memories
  pub inputs : (i : ℕ) → i < length s.actor.signature → among (input_names s.actor.ports) (get_or (spelled_of s.actor.signature) i []) ≡ true → port_at (plan_of s) i ≡ get_or s.widths i 0
  pub outputs : (i : ℕ) → i < length s.actor.signature → among (input_names s.actor.ports) (get_or (spelled_of s.actor.signature) i []) ≡ false → port_at (plan_of s) i ≡ get_or s.widths i 0 + 256
  pub memories : (i : ℕ) → i < length s.actor.memories → memory_width_at (plan_of s) i ≡ get_or s.widths (length s.actor.signature + i) 0
  -- a cycle of it is a cycle of the actor
  pub means : (mask : ℕ) (values memory outputs : List ℕ) → length values ≡ length s.actor.signature → length outputs ≡ length s.actor.signature → length memory ≡ length (cell_widths s)
      → cycle_of (plan_of s) mask values memory outputs ≡ cycle s (record { mask = mask; values = values; memory = memory }) outputs
  -- and so is any run of cycles, refused ones among them: `cycle` called again and again, each time with output slots of its own
  pub calls : (ts : List Turn) (memory : List ℕ) → Every (λ t. (length t.values ≡ length s.actor.signature) × (length t.outputs ≡ length s.actor.signature)) ts → length memory ≡ length (cell_widths s)
      → cycles_of (plan_of s) ts memory ≡ run s ts memory
  -- and `run`, over tables that fit
  pub runs : (masks values memory outputs answers : List ℕ) → RunTables s masks values memory outputs answers
      → run_of (plan_of s) masks values memory outputs answers ≡ left_by memory (run s (turns_in (length s.actor.signature) masks values outputs) memory)
  -- "21 values or outputs not one per port, or memory not one per cell"
  pub uncounted : (mask : ℕ) (values memory outputs : List ℕ)
      → ((length values ≡ length s.actor.signature) × (length outputs ≡ length s.actor.signature) × (length memory ≡ length (cell_widths s)) → ⊥)
      → cycle_of (plan_of s) mask values memory outputs ≡ record { answer = 21; count = 0; outputs = outputs; memory = memory }
  pub unfit : (masks values memory outputs answers : List ℕ) → (RunTables s masks values memory outputs answers → ⊥)
      → run_of (plan_of s) masks values memory outputs answers ≡ result 21 memory outputs answers

-- two cycles of any plan: alike in mask, memory, lengths and the values of present inputs
pub record SameGiven (p : List ℕ) (mask : ℕ) (v w x y : List ℕ) : Type 0 where
  pub values : length v ≡ length w
  pub outputs : length x ≡ length y
  pub inputs : (i : ℕ) → i < port_count p → bit_of mask i ≡ 1 → port_at p i < 256 → get_or v i 0 ≡ get_or w i 0

-- "alike in answer, count and memory and, if accepted, in outputs"
pub record Alike (a b : Outcome) : Type 0 where
  pub answer : a.answer ≡ b.answer
  pub count : a.count ≡ b.count
  pub memory : a.memory ≡ b.memory
  pub outputs : a.answer ≡ 0 → a.outputs ≡ b.outputs
