-- `readers::look::kind` meets its contract: the table's kind inside, and 0 past the end. Assumes nothing.
use mathlib.Core.Path.{sym}
use Rattle.readers.proofs.Spells.{kind_is, kind_past}
use Rattle.readers.specs.Marks.{count}
use borrow.Author.Rules.{rules}
use Rattle.readers.proofs.look.kind.Goals as goal

pub returns-then-at-words : goal.returns-then-at-words
unfolding count
returns-then-at-words c = record { is = sym (kind_is _ _ (search rules)); word = search rules }

pub returns-else-at-words : goal.returns-else-at-words
unfolding count
returns-else-at-words c = record { is = sym (kind_past _ _ (search rules)); word = search rules }
