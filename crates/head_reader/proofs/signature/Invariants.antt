-- `head_reader::signature` meets its contract. Assumes nothing.
use Prim.Native.Nat.{◌-◌}
use Rattle.language.specs.Parser.{name_p}
use Rattle.tape.specs.Tape.{flat_signed}
use Rattle.readers.specs.Marks.{count}
use Rattle.readers.proofs.Commas.{Commas}
use Rattle.head_reader.proofs.signature.Given as goal

abbrev pub invariant-loop-x : goal.invariant-loop-x
invariant-loop-x l = Commas flat_signed (λ f l. name_p f l) l.words l.initial.x l.initial.items.n l.initial.items.tape l.x l.items.n l.items.tape

abbrev pub decreases-loop-x : goal.decreases-loop-x
decreases-loop-x l = count l.words - l.x
