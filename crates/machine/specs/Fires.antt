-- A rule that fires: what its run may count on, and what it does. Assumes nothing: these are definitions.
use Rattle.std.specs.Prelude.{◌≡◌, List, [], ℕ, ◌+◌, ◌%◌, ◌≤◌, length, take, replicate}
use Rattle.language.specs.Meaning.{Change}
use Rattle.plan.specs.Items.{decode_all}
use Rattle.plan.specs.Layout.{port_count, group_count, present_at, length_at, code_before, code_from, code_at}
use Rattle.plan.specs.Sound.{rule_check, ended, slots}
use Rattle.item_steps.specs.Machine.{State, state, exec_all, exec_rules}
use Rattle.item_steps.specs.declared.Tables.{Tables}
use Rattle.machine.specs.Safety.{CodeGiven, Ran}

-- a rule whose code can be run: it stands in the plan, it was checked, and what it reads fits
pub record Fires (p values memory : List ℕ) (r : ℕ) : Type 0 where
  pub inside : code_from p + 1 + code_before p r + length_at p r ≤ length p
  pub whole : length_at p r % 4 ≡ 0
  pub taken : ℕ
  pub assigned : ℕ
  pub checked : rule_check p taken r ≡ ended assigned
  pub given : CodeGiven p (present_at p r) values memory

-- one rule's run, over the outputs and writes of those before it
unfoldable pub rule_run : (p values memory : List ℕ) → ℕ → List ℕ → List (Change ℕ) → State
rule_run p values memory r outputs qs = exec_all values memory (decode_all (code_at p r)) (state [] (replicate slots 0) outputs qs)

-- the rules that fire, from outputs that are 0 and no write
abbrev pub fired_run : (p values memory fired : List ℕ) → State
fired_run p values memory fired = exec_rules p values memory fired (state [] [] (replicate (port_count p) 0) [])

-- what they leave: the outputs of the plan's ports, and the cells
abbrev pub FiredRan : (p values memory fired outputs : List ℕ) {cells : ℕ} → Tables cells → Type 0
FiredRan p values memory fired outputs {cells} t = Ran memory (take (port_count p) outputs) t (fired_run p values memory (take (group_count p) fired))
