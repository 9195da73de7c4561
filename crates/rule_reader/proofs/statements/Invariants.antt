-- `rule_reader::statements` meets its contract. Assumes nothing.
use Prim.Native.Nat.{◌-◌}
use Rattle.language.specs.Parser.{is_start, statement_p}
use Rattle.tape.specs.Tape.{flat_statement}
use Rattle.readers.specs.Marks.{count}
use Rattle.readers.proofs.Lists.{Listed}
use Rattle.rule_reader.proofs.statements.Given as goal

abbrev pub invariant-loop-items : goal.invariant-loop-items
invariant-loop-items l = Listed flat_statement is_start (λ ms f a r. statement_p ms f a r) l.words l.initial.x l.initial.items.n l.initial.items.tape l.x l.items.n l.items.tape

abbrev pub decreases-loop-items : goal.decreases-loop-items
decreases-loop-items l = count l.words - l.x
