-- `row10_widths::codes::counted` meets its contract. Assumes nothing.
use native.Mathlib.Omega.{arith}
use Rattle.type_nodes.specs.Codes.{counted_of}
use Rattle.type_nodes.proofs.Turns.{not_counted_law}
use Rattle.type_nodes.proofs.counted.Goals as goal

pub returns-in-Signed : goal.returns-in-Signed
unfolding counted_of
returns-in-Signed c = (rw c.in-Signed.is, omega arith, omega arith)

pub returns-in-Memory : goal.returns-in-Memory
unfolding counted_of
returns-in-Memory c = (rw c.in-Memory.is, omega arith, omega arith)

pub returns-in_default : goal.returns-in_default
returns-in_default c = (not_counted_law _ _ c.in_default.not-Signed c.in_default.not-Memory, omega arith, omega arith)
