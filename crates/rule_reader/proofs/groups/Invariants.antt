-- `rule_reader::groups` meets its contract. Assumes nothing.
use Prim.Native.Nat.{◌-◌}
use Rattle.language.specs.Reader.{is}
use Rattle.language.specs.Parser.{group_p}
use Rattle.tape.specs.Tape.{flat_group}
use Rattle.readers.specs.Marks.{count}
use Rattle.readers.proofs.Lists.{Listed}
use Rattle.rule_reader.proofs.groups.Given as goal

abbrev pub invariant-loop-items : goal.invariant-loop-items
invariant-loop-items l = Listed flat_group (is "or") (λ ms f p r. group_p ms f p r) l.words l.initial.x l.initial.items.n l.initial.items.tape l.x l.items.n l.items.tape

abbrev pub decreases-loop-items : goal.decreases-loop-items
decreases-loop-items l = count l.words - l.x
