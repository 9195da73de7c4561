-- `row07_limits::listed` meets its contract. Assumes nothing.
use native.Mathlib.Omega.{arith}
use Rattle.row07_limits.proofs.listed.Goals as goal

pub returns-then-table-many : goal.returns-then-table-many
returns-then-table-many c = λ h. absurd (omega arith)
