-- `feed` meets its contract: once the rest has run, all has. Assumes nothing.
use Rattle.input_bytes.specs.Bytes.{machine_of}
use Rattle.tipirun.proofs.Bytewise.{Running}
use Rattle.tipirun.proofs.steps.feed.Given as goal

abbrev pub invariant-loop-b : goal.invariant-loop-b
invariant-loop-b l = Running (machine_of l.initial.t l.initial.tables) l.bytes l.initial.tables.out l.b-index (machine_of l.t l.tables) l.tables.out
