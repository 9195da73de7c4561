-- `head_reader::memories` meets its contract. Assumes nothing.
use Prim.Native.Nat.{◌-◌}
use Rattle.language.specs.Parser.{is_store, memory_p}
use Rattle.tape.specs.Tape.{flat_memory}
use Rattle.readers.specs.Marks.{count}
use Rattle.readers.proofs.Lists.{Listed}
use Rattle.head_reader.proofs.memories.Given as goal

abbrev pub invariant-loop-at : goal.invariant-loop-at
invariant-loop-at l = Listed flat_memory is_store (λ ms f i r. memory_p f i r) l.words l.initial.x l.initial.items.n l.initial.items.tape l.x l.items.n l.items.tape

abbrev pub decreases-loop-at : goal.decreases-loop-at
decreases-loop-at l = count l.words - l.x
