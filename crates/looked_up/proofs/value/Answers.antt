-- `looked_up::value` meets its contract: the value of the line that is found, or 0. Assumes nothing.
use native.Mathlib.Omega.{arith}
use Rattle.looked_up.proofs.Numbers.{value_found, value_missing}
use Rattle.looked_up.proofs.value.Goals as goal

pub returns-then-i-to : goal.returns-then-i-to
returns-then-i-to c = value_found _ _ _ _ _ _ _ c.found-i.ensures c.end-to.ensures c.if-i-to.true

pub returns-else-i-to : goal.returns-else-i-to
returns-else-i-to c = value_missing _ _ _ _ _ _ _ c.found-i.ensures c.end-to.ensures (omega arith)
