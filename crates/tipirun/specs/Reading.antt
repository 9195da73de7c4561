-- Numbers and texts as they are read, byte by byte. Assumes nothing: these are definitions.
use Rattle.std.specs.Prelude.{◌≡◌, None, List, ℕ}
use Rattle.language.specs.Reading as Reading
use Rattle.language.specs.Reading.{Reads}
use Rattle.tipi.specs.Told.{answer_of, table_after}
use Rattle.plan_answer.specs.Answered.{Answer}
use Rattle.std.specs.Prelude.{Ok, Err}
use Rattle.figures.specs.declared.Stage.TheVariants.{CycleCount, Stopped}
use Rattle.figures.specs.declared.State.{State}
use Rattle.figures.specs.States.{start_of}

-- ---- what reading makes of the texts

abbrev pub planned_of : State → ℕ → State
planned_of s n = record { stage = CycleCount; number = None; left = 0; port = 0; mask = 0; actor = s.actor; bindings = s.bindings; plan = n; at = s.at }

unfoldable pub judged_of : Answer → State → State
judged_of (Ok n) s = planned_of s n
judged_of (Err why) s = start_of s (Stopped why.row why.place) 0

-- what the two texts are read as, and the state and the table of the plan after it
pub record Judged (actor bindings : List ℕ) (s : State) (plan : List ℕ) (r : State) (after : List ℕ) : Type 0 where
  pub what : Reading.Answer
  pub reads : Reads actor bindings what
  pub stands : r ≡ judged_of (answer_of what plan) s
  pub table : after ≡ table_after what plan
