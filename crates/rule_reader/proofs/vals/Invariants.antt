-- `rule_reader::vals` meets its contract. Assumes nothing.
use Prim.Native.Nat.{◌-◌}
use Rattle.language.specs.Reader.{is}
use Rattle.language.specs.Parser.{val_p}
use Rattle.tape.specs.Tape.{flat_val}
use Rattle.readers.specs.Marks.{count}
use Rattle.readers.proofs.Lists.{Listed}
use Rattle.rule_reader.proofs.vals.Given as goal

abbrev pub invariant-loop-items : goal.invariant-loop-items
invariant-loop-items l = Listed flat_val (is "val") (λ ms f p r. val_p ms f p r) l.words l.initial.x l.initial.items.n l.initial.items.tape l.x l.items.n l.items.tape

abbrev pub decreases-loop-items : goal.decreases-loop-items
decreases-loop-items l = count l.words - l.x
