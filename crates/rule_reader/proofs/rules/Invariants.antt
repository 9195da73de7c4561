-- `rule_reader::rules` meets its contract. Assumes nothing.
use Prim.Native.Nat.{◌-◌}
use Rattle.language.specs.Reader.{is_name}
use Rattle.language.specs.Parser.{rule_p}
use Rattle.tape.specs.Tape.{flat_rule}
use Rattle.readers.specs.Marks.{count}
use Rattle.readers.proofs.Lists.{Listed}
use Rattle.rule_reader.proofs.rules.Given as goal

abbrev pub invariant-loop-items : goal.invariant-loop-items
invariant-loop-items l = Listed flat_rule is_name (λ ms f n r. rule_p ms f n r) l.words l.initial.x l.initial.items.n l.initial.items.tape l.x l.items.n l.items.tape

abbrev pub decreases-loop-items : goal.decreases-loop-items
decreases-loop-items l = count l.words - l.x
