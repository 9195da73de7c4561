-- THE THREE DEMANDS, about the functions that users call: `read`, `line`, `cycle` and `run` of this crate. proofs/Demands.antt proves `demands : Demands`, with no premise. Assumes nothing: these are definitions.
-- A function's promise stands beside it in src/ (of `line` in the crate lines, of `cycle` and `run` in the crate cycle). None has a `requires`: each returns, whatever it is given, and reads and writes inside its tables alone. Then
--     read(text, bindings, table)                          answers r and leaves `after` in the table, where    Read text bindings r table after
--     line(text, bindings, which, place)                   gives a part with the bytes r that begins at `at`:  LineStands (of_text text bindings which) .. (line_at text bindings which place) r at
--     cycle(plan, mask, values, memory, outputs)           answer, count, outputs and memory are               cycle_of plan mask values memory outputs
--     run(plan, masks, values, memory, outputs, answers)   answer, memory, outputs and answers are             run_of plan masks values memory outputs answers
-- What two texts are by document 01 is `Reads text bindings x`, what an accepted one means is `cycle` and `run` of Meaning: both in language/specs, where no plan is.
-- Other words of this page: a run's tables as cycles (`turns_in`), what their outcomes leave in them (`left_by`) and calls of `cycle` one after the other (`cycles_of`) are in cycle/specs/Run.antt.
use Rattle.std.specs.Prelude.{◌≡◌, ◌↔◌, ◌⊎◌, List, [], true, false, ℕ, ◌+◌, ◌*◌, ◌^◌, ◌≤◌, ◌<◌, length, get_or, take, drop}
use Rattle.language.specs.Limits.{limits}
use Rattle.language.specs.Text.{among, line_at}
use Rattle.language.specs.Words.{Word, words_of, words}
use Rattle.language.specs.Tree.{Actor, spelled_of}
use Rattle.language.specs.Names.{input_names}
use Rattle.language.specs.Types.{IsAtLeast, exact_of}
use Rattle.language.specs.Bindings.{Bindings}
use Rattle.language.specs.Widths.{Want, exactly, valued, wants, value_in, port_width}
use Rattle.language.specs.Sizes.{Setting}
use Rattle.language.specs.Reading as Reading
use Rattle.language.specs.Reading.{refused, accepted, through, early, Reads}
use Rattle.language.specs.Meaning.{Turn, cell_widths, run}
use Rattle.language.specs.Meaning as Meaning
use Rattle.language.specs.declared.Text.{Text}
use Rattle.language.specs.declared.Text.TheVariants.{Actor as InActor}
use Rattle.plan.specs.Layout.{port_count, port_at, memory_width_at}
use Rattle.plan.specs.Sound.{sound_of}
use Rattle.turn.specs.Cycle.{cycle_of}
use Rattle.turn.specs.Turn.{outcome}
use Rattle.cycle.specs.Run.{result, run_of, cycles_of, turns_in, left_by}
use Rattle.placed.specs.Placed.{Every}
use Rattle.plan_of.specs.PlanOf.{plan_of}
use Rattle.plan_of.specs.Theorems.{RunTables, SameGiven, Alike}
use Rattle.lines.specs.Bounds.{of_text, LineStands, IsLineAt}
use Rattle.tipi.specs.Told.{Read}
use Rattle.plan_answer.specs.Answered.{Answer}
use Rattle.plan_answer.specs.Answered.{Plan, Refused}

-- ---- 1. "All input is met with a result .. A refusal gives its number, a reading refusal also its place, and leaves plan, memory and outputs as they stood."

-- a cycle that is refused: 20 to 25, no port is counted, outputs and memory stand as they stood
pub record RefusedCycle (o : Meaning.Outcome) (memory outputs : List ℕ) : Type 0 where
  pub number : (20 ≤ o.answer) × (o.answer ≤ 25)
  pub stands : o ≡ outcome o.answer 0 outputs memory

pub record Demand1 : Type 0 where
  pub reading : {text bindings table after : List ℕ} {n p : ℕ} {t : Text} → Read text bindings (Refused n t p) table after → after ≡ table
  -- of any list of numbers as a plan, and any tables
  pub cycling : (plan : List ℕ) (mask : ℕ) (values memory outputs : List ℕ) → ((cycle_of plan mask values memory outputs).answer ≡ 0 → ⊥) → RefusedCycle (cycle_of plan mask values memory outputs) memory outputs
  -- a run is refused as a whole, by 20 or 21, and nothing has changed; else it is `cycle` again and again, each time with its own part of the tables
  pub running : (plan masks values memory outputs answers : List ℕ)
      → (run_of plan masks values memory outputs answers ≡ result 20 memory outputs answers) ⊎ ((run_of plan masks values memory outputs answers ≡ result 21 memory outputs answers)
      ⊎ (run_of plan masks values memory outputs answers ≡ left_by memory (cycles_of plan (turns_in (port_count plan) masks values outputs) memory)))
  -- "Cycles alike in plan, memory, mask, buffer lengths and values of present inputs are alike in answer, count and memory and, if accepted, in outputs."
  pub alike : (plan : List ℕ) (mask : ℕ) (v w memory x y : List ℕ) → SameGiven plan mask v w x y → Alike (cycle_of plan mask v memory x) (cycle_of plan mask w memory y)

-- ---- 2. "Given room in the table, a text is accepted exactly when the manual, as narrowed in document 01, allows it, else refused by the first fault in 01's order."

pub record Demand2 : Type 0 where
  -- any two texts have an answer of document 01, and no second one
  pub some_answer : (text bindings : List ℕ) → (x : Reading.Answer) × Reads text bindings x
  pub one_answer : (text bindings : List ℕ) (x y : Reading.Answer) → Reads text bindings x → Reads text bindings y → x ≡ y
  -- `read` gives it: the refusal with its number, text and place
  pub refuses : {text bindings table after : List ℕ} {r : Answer} {n p : ℕ} {t : Text} → Read text bindings r table after → Reads text bindings (refused n t p) → (r ≡ Refused n t p) × (after ≡ table)
  -- or the plan, at the table's start, with the rest of the table left
  pub accepts : {text bindings table after : List ℕ} {r : Answer} (s : Setting) → Read text bindings r table after → Reads text bindings (accepted s) → length (plan_of s) ≤ length table
      → (r ≡ Plan (length (plan_of s))) × (take (length (plan_of s)) after ≡ plan_of s) × (drop (length (plan_of s)) after ≡ drop (length (plan_of s)) table)
  -- or 13, where there is no room
  pub no_room : {text bindings table after : List ℕ} {r : Answer} (s : Setting) → Read text bindings r table after → Reads text bindings (accepted s) → length table < length (plan_of s) → (r ≡ Refused 13 InActor 0) × (after ≡ table)
  -- "at most 64 numbers and eight for each word of its actor" are room enough
  pub room : {text bindings : List ℕ} {ws : List Word} (s : Setting) → Reads text bindings (accepted s) → words_of text ≡ words ws → length (plan_of s) ≤ 64 + 8 * length ws

-- "Widths are the least ones that satisfy all declared types; each operator's value is 01's": of the operators, `cycle` of Meaning is made of the plain arithmetic of language/specs/Values, and demand 3 speaks of it

-- a width is what is wanted: the bound one; or the type's value, floored, of which 01 says "The value is at least w exactly when 2^k times A is at least 2^w times B"; for each w from 1 on, so that a value below zero has the width 0
abbrev pub HasWidth : Actor → Bindings → List ℕ → Want → ℕ → Type 0
HasWidth a b ws (exactly n) v = v ≡ n
HasWidth a b ws (valued t) v = (w : ℕ) → 1 ≤ w → IsAtLeast (exact_of (port_width a ws) (value_in b.values) t) w ↔ (w ≤ v)

-- widths from 0 to 32 for the ports of the signature and then the memories, each as its type has it at these very widths
pub record Fulfils (a : Actor) (b : Bindings) (ws : List ℕ) : Type 0 where
  pub long : length ws ≡ length (wants a b)
  pub small : (i : ℕ) → get_or ws i 0 ≤ limits.width
  pub equal : (i : ℕ) → i < length (wants a b) → HasWidth a b ws (get_or (wants a b) i (exactly 0)) (get_or ws i 0)

pub record LeastWidths (a : Actor) (b : Bindings) (ws : List ℕ) : Type 0 where
  pub fulfils : Fulfils a b ws
  pub least : (vs : List ℕ) → Fulfils a b vs → (i : ℕ) → get_or ws i 0 ≤ get_or vs i 0

pub record DemandWidths : Type 0 where
  pub least : {text bindings : List ℕ} (s : Setting) → Reads text bindings (accepted s) → LeastWidths s.actor s.bindings s.widths
  -- "refusal 10 exactly when no widths from 0 to 32 satisfy every type", of an actor with no fault before
  pub none : (text bindings : List ℕ) (a : Actor) (b : Bindings) → early text bindings ≡ through a b → Reads text bindings (refused 10 InActor 0) ↔ ((vs : List ℕ) → Fulfils a b vs → ⊥)

-- ---- 3. "For any accepted text and bindings, memory that fits, any run of cycles (refused ones among them): the plan gives in every cycle the answer, outputs and memory that the text itself means"

-- a plan means what two texts mean
pub record Means (text bindings plan : List ℕ) : Type 0 where
  -- what the texts are read as: the actor, its bindings and its widths
  pub setting : Setting
  pub reads : Reads text bindings (accepted setting)
  -- the plan is sound, and its widths are those
  pub sound : sound_of plan ≡ true
  pub small : Every (λ n. n < 2 ^ 32) plan
  pub inputs : (i : ℕ) → i < length setting.actor.signature → among (input_names setting.actor.ports) (get_or (spelled_of setting.actor.signature) i []) ≡ true → port_at plan i ≡ get_or setting.widths i 0
  pub outputs : (i : ℕ) → i < length setting.actor.signature → among (input_names setting.actor.ports) (get_or (spelled_of setting.actor.signature) i []) ≡ false → port_at plan i ≡ get_or setting.widths i 0 + 256
  pub memories : (i : ℕ) → i < length setting.actor.memories → memory_width_at plan i ≡ get_or setting.widths (length setting.actor.signature + i) 0
  -- `cycle` is a cycle of the text: answer, count, every output slot and every cell
  pub cycle : (mask : ℕ) (values memory outputs : List ℕ) → length values ≡ length setting.actor.signature → length outputs ≡ length setting.actor.signature → length memory ≡ length (cell_widths setting)
      → cycle_of plan mask values memory outputs ≡ Meaning.cycle setting (record { mask = mask; values = values; memory = memory }) outputs
  -- called again and again, with any output slots, it is a run of the text
  pub cycles : (ts : List Turn) (memory : List ℕ) → Every (λ t. (length t.values ≡ length setting.actor.signature) × (length t.outputs ≡ length setting.actor.signature)) ts → length memory ≡ length (cell_widths setting)
      → cycles_of plan ts memory ≡ run setting ts memory
  -- and so is `run`: answers, counts, every output slot and every cell
  pub runs : (masks values memory outputs answers : List ℕ) → RunTables setting masks values memory outputs answers
      → run_of plan masks values memory outputs answers ≡ left_by memory (run setting (turns_in (length setting.actor.signature) masks values outputs) memory)
  -- "21 values or outputs not one per port, or memory not one per cell"
  pub uncounted : (mask : ℕ) (values memory outputs : List ℕ)
      → ((length values ≡ length setting.actor.signature) × (length outputs ≡ length setting.actor.signature) × (length memory ≡ length (cell_widths setting)) → ⊥)
      → cycle_of plan mask values memory outputs ≡ outcome 21 0 outputs memory
  pub unfit : (masks values memory outputs answers : List ℕ) → (RunTables setting masks values memory outputs answers → ⊥) → run_of plan masks values memory outputs answers ≡ result 21 memory outputs answers

pub record Demand3 : Type 0 where
  -- where `read` answers with a plan of l numbers, the first l numbers of its table mean what the texts mean
  pub means : {text bindings table after : List ℕ} {l : ℕ} → Read text bindings (Plan l) table after → Means text bindings (take l after)

-- ---- and the line of a fault: "The line at fault can be had as a part of whichever of the two texts the place names, without its line end."

-- what `line` gives for any place of two texts, which lie at a and b, is the line around it, and begins where that line begins
pub record DemandLine : Type 0 where
  pub around : (text bindings : List ℕ) (a b : ℕ × ℕ) (which : Text) (place : ℕ) (r : List ℕ) (at : ℕ × ℕ)
      → LineStands (of_text text bindings which) (of_text a b which) (line_at text bindings which place) r at → IsLineAt (of_text text bindings which) (of_text a b which) place r at
  -- so where `read` refuses by n at p of the text t, `line` gives the line around p, out of that text
  pub at_fault : {text bindings table after : List ℕ} {n p : ℕ} {t : Text} → Read text bindings (Refused n t p) table after → (a b : ℕ × ℕ) (r : List ℕ) (at : ℕ × ℕ)
      → LineStands (of_text text bindings t) (of_text a b t) (line_at text bindings t p) r at → IsLineAt (of_text text bindings t) (of_text a b t) p r at

-- THE PAGE
pub record Demands : Type 0 where
  pub first : Demand1
  pub second : Demand2
  pub widths : DemandWidths
  pub third : Demand3
  pub line : DemandLine
