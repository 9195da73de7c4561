-- `rule_reader::assignments` meets its contract. Assumes nothing.
use Prim.Native.Nat.{◌-◌}
use Rattle.language.specs.Reader.{is_name}
use Rattle.language.specs.Parser.{assignment_p}
use Rattle.tape.specs.Tape.{flat_assignment}
use Rattle.readers.specs.Marks.{count}
use Rattle.readers.proofs.Lists.{Listed}
use Rattle.rule_reader.proofs.assignments.Given as goal

abbrev pub invariant-loop-items : goal.invariant-loop-items
invariant-loop-items l = Listed flat_assignment is_name (λ ms f n r. assignment_p ms f n r) l.words l.initial.x l.initial.items.n l.initial.items.tape l.x l.items.n l.items.tape

abbrev pub decreases-loop-items : goal.decreases-loop-items
decreases-loop-items l = count l.words - l.x
