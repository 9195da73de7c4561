-- `rule_reader::lists::entries` meets its contract. Assumes nothing.
use Prim.Native.Nat.{◌-◌}
use Rattle.language.specs.Parser.{entry_p}
use Rattle.tape.specs.Tape.{flat_entry}
use Rattle.readers.specs.Marks.{count}
use Rattle.readers.proofs.Commas.{Commas}
use Rattle.rule_reader.proofs.lists.entries.Given as goal

abbrev pub invariant-loop-x : goal.invariant-loop-x
invariant-loop-x l = Commas flat_entry (λ f l. entry_p f l) l.words l.initial.x l.initial.items.n l.initial.items.tape l.x l.items.n l.items.tape

abbrev pub decreases-loop-x : goal.decreases-loop-x
decreases-loop-x l = count l.words - l.x
