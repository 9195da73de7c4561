-- A run of cycles, each with its own mask, values and output slots, and the memory that the one before left. Assumes nothing: these are definitions.
use Rattle.std.specs.Prelude.{Bool, true, false, ◌&&◌, List, [], ◌∷◌, ◌++◌, ℕ, ◌*◌, eqb, length, take, drop}
use Rattle.language.specs.Parts.{each}
use Rattle.language.specs.Meaning.{Outcome, Turn, memory_left}
use Rattle.plan.specs.Layout.{port_count, memory_count, cells_before}
use Rattle.plan.specs.Sound.{sound_of}
use Rattle.judged.specs.declared.Refusal.TheVariants.{Unsound, Miscounted}
use Rattle.judged.specs.Answers.{number_of}
use Rattle.turn.specs.Cycle.{cycle_of}

-- the answer of a run, the memory it leaves, the output slots and the two numbers of each cycle
pub record Result : Type 0 where
  pub answer : ℕ
  pub memory : List ℕ
  pub outputs : List ℕ
  pub answers : List ℕ

abbrev pub result : ℕ → List ℕ → List ℕ → List ℕ → Result
result a memory outputs answers = record { answer = a; memory = memory; outputs = outputs; answers = answers }

-- a cycle before the others
unfoldable pub before : Outcome → Result → Result
before o r = result r.answer r.memory (o.outputs ++ r.outputs) (o.answer ∷ o.count ∷ r.answers)

unfoldable pub turns_of : List ℕ → List ℕ → List ℕ → List ℕ → List ℕ → Result
turns_of p [] values memory outputs = result 0 memory [] []
turns_of p (m ∷ ms) values memory outputs =
    before (cycle_of p m (take (port_count p) values) memory (take (port_count p) outputs))
    (turns_of p ms (drop (port_count p) values) (cycle_of p m (take (port_count p) values) memory (take (port_count p) outputs)).memory (drop (port_count p) outputs))

-- a value and an output slot for each port, and two numbers, for each mask
unfoldable pub tables_fit : List ℕ → List ℕ → List ℕ → List ℕ → List ℕ → List ℕ → Bool
tables_fit p masks values memory outputs answers =
    eqb (length values) (length masks * port_count p) && eqb (length outputs) (length masks * port_count p) && eqb (length answers) (length masks * 2)
    && eqb (length memory) (cells_before p (memory_count p))

unfoldable pub run_of : List ℕ → List ℕ → List ℕ → List ℕ → List ℕ → List ℕ → Result
run_of p masks values memory outputs answers =
    elim (sound_of p) [
      | false ↦ result (number_of Unsound) memory outputs answers
      | true ↦ elim (tables_fit p masks values memory outputs answers) [ false ↦ result (number_of Miscounted) memory outputs answers | true ↦ turns_of p masks values memory outputs ]
    ]

-- ---- the same as calls of `cycle`, one after the other

-- each with its own mask, values and output slots, and the memory that the one before left
unfoldable pub cycles_of : List ℕ → List Turn → List ℕ → List Outcome
cycles_of p [] memory = []
cycles_of p (t ∷ ts) memory = let o = cycle_of p t.mask t.values memory t.outputs in o ∷ cycles_of p ts o.memory

-- the cycles that the tables of a run stand for, with n ports
unfoldable pub turns_in : ℕ → List ℕ → List ℕ → List ℕ → List Turn
turns_in n [] values outputs = []
turns_in n (m ∷ ms) values outputs = record { mask = m; values = take n values; outputs = take n outputs } ∷ turns_in n ms (drop n values) (drop n outputs)

-- what the outcomes of a run leave in its tables
unfoldable pub left_by : List ℕ → List Outcome → Result
left_by memory os = result 0 (memory_left memory os) (each (λ o. o.outputs) os) (each (λ o. o.answer ∷ o.count ∷ []) os)
