-- `run_items` meets its contract: whatever was written before, the items from the i-th on are left to run, and find what they ask. Assumes nothing.
use Prim.Native.Nat.{ℕ, ◌+◌, ◌*◌, ◌≤◌}
use mathlib.Core.Path.{◌≡◌}
use mathlib.Core.List.{List, []}
use Rattle.language.specs.Meaning.{Change}
use Rattle.soundness.proofs.Turns.{rest}
use Rattle.item_steps.specs.Machine.{State, state, exec_all}
use Rattle.item_steps.specs.Ready.{Writes, Left}
use Rattle.machine.specs.Safety.{CodeGiven, Safe, items_from, items_run}
use Rattle.machine.proofs.code.run_items.Given as goal

abbrev pub invariant-loop-i : goal.invariant-loop-i
invariant-loop-i g l = record {
  few : l.n ≤ 256;
  run : (present taken : ℕ) → Safe l.plan present taken (items_from l.plan l.from l.items) (state [] l.initial.slots l.initial.outputs [])
      → CodeGiven l.plan present l.values l.memory → (qs : List (Change ℕ)) → Writes l.memory l.initial.tables qs
      → (s : State) × Left l.memory l.n l.slots l.outputs l.tables s × Safe l.plan present taken (rest l.plan (l.from + 4 * l.i) l.items l.i) s
      × (exec_all l.values l.memory (rest l.plan (l.from + 4 * l.i) l.items l.i) s ≡ items_run l.plan l.values l.memory l.initial.slots l.initial.outputs l.from l.items qs);
}
