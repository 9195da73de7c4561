-- `turns` meets its contract: k cycles are over, and there is room for the next. Assumes nothing.
use Prim.Native.Nat.{◌+◌, ◌*◌, ◌≤◌, ◌<◌}
use lib.ListN.{length}
use Rattle.cycle.proofs.Night.{Runs}
use Rattle.cycle.proofs.runs.turns.Given as goal

abbrev pub invariant-loop-k : goal.invariant-loop-k
invariant-loop-k l = record {
  runs : Runs l.plan l.masks l.values l.initial.memory l.initial.outputs l.k (l.k * l.n) l.memory l.outputs l.answers;
  room : l.k < length l.masks → (l.k * l.n + l.n ≤ length l.values) × (l.k * l.n + l.n ≤ length l.initial.outputs) × (l.k * 2 + 1 < length l.initial.answers);
}
