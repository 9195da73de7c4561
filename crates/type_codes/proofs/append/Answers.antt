-- `row10_widths::codes::append` meets its contract. Assumes nothing.
use native.Mathlib.Omega.{arith}
use Rattle.type_codes.proofs.Slots.{one_more, no_more_law}
use Rattle.type_codes.proofs.append.Goals as goal

pub returns-then-len-lt-WORDS : goal.returns-then-len-lt-WORDS
returns-then-len-lt-WORDS c = one_more _ _ _ _ c.if-len-lt-WORDS.true (omega arith)

pub returns : goal.returns
returns c = no_more_law _ _ _ _ (omega arith) (omega arith) (omega arith)
