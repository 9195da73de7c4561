-- `run_rules` meets its contract: the rules from the r-index-th on are left to run. Assumes nothing.
use mathlib.Core.Path.{◌≡◌}
use mathlib.Core.List.{[]}
use lib.ListN.{drop}
use Rattle.item_steps.specs.Machine.{State, state, exec_rules}
use Rattle.machine.specs.Safety.{Ran}
use Rattle.machine.proofs.code.run_rules.Given as goal

abbrev pub invariant-loop-r : goal.invariant-loop-r
invariant-loop-r g l =
    (s : State) × Ran l.memory l.outputs l.tables s × (exec_rules l.plan l.values l.memory (drop l.r-index l.fired) s ≡ exec_rules l.plan l.values l.memory l.fired (state [] [] l.initial.outputs []))
