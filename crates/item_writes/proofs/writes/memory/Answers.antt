-- `item_writes::writes::memory` meets its contract. Assumes nothing.
use mathlib.Core.Path.{ap}
use Prim.Native.Nat.{ℕ}
use Rattle.tape.specs.Tape.{MEMORY}
use Rattle.settled.specs.Form.{six}
use Rattle.item_writes.specs.Tables.{numbers_of}
use Rattle.item_writes.proofs.writes.memory.Goals as goal

pub returns : goal.returns
unfolding numbers_of
returns c = record { is = λ btext table lines s. ap (λ (w : ℕ). six MEMORY c.args.place w c.args.size 0 0) (c.memory_width-w.ensures.is btext table lines s) }
