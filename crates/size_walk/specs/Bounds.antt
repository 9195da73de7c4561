-- What one turn of the walk keeps: the bounds by the items passed, and what stands in the tables past what was written. Assumes nothing: these are definitions.
use Rattle.std.specs.Prelude.{List, ℕ, zero, suc, ◌+◌, ◌*◌, ◌≤◌, get_or}
use Rattle.size_walk.specs.declared.Effect.{Effect}
use Rattle.size_walk.specs.declared.Far.{Far}
use Rattle.size_walk.specs.declared.Seen.{Seen}
use Rattle.size_walk.specs.Effects.{effect_of}
use Rattle.size_walk.specs.Steps.{State, step_of, begin, room}

-- what item i does
unfoldable pub effect_at : List ℕ → ℕ → Seen → Effect
effect_at t i v =
    effect_of (get_or t (6 * i) 0) (get_or t (6 * i + 1) 0) (get_or t (6 * i + 2) 0) (get_or t (6 * i + 3) 0) (get_or t (6 * i + 4) 0) (get_or t (6 * i + 5) 0) v

-- the state after item i, and after the first i items
unfoldable pub step_at : State → List ℕ → ℕ → State
step_at s t i =
    step_of s (get_or t (6 * i) 0) (get_or t (6 * i + 1) 0) (get_or t (6 * i + 2) 0) (get_or t (6 * i + 3) 0) (get_or t (6 * i + 4) 0) (get_or t (6 * i + 5) 0)

unfoldable pub up_to : List ℕ → ℕ → State
up_to t zero = begin
up_to t (suc i) = step_at (up_to t i) t i

-- an item adds at most one expression, one case, four numbers of code and one rule
pub record Bounded (far : Far) (i : ℕ) : Type 0 where
  pub waits : far.waits ≤ i
  pub out : far.out ≤ 4 * i
  pub cases : far.cases ≤ i
  pub rule : far.rule ≤ far.out
  pub rules : far.rules ≤ room
