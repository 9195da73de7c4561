-- `row10_widths::codes::some` meets its contract. Assumes nothing.
use native.Mathlib.Omega.{arith}
use Rattle.type_codes.proofs.Slots.{filled_as, some_none, some_kept}
use Rattle.type_codes.proofs.some.Goals as goal

pub returns-then-len-eq0 : goal.returns-then-len-eq0
returns-then-len-eq0 c = filled_as (some_none _ c.if-len-eq0.true) c.single.ensures

pub returns : goal.returns
returns c = some_kept _ _ _ (omega arith) c.if-len-eq0.false (omega arith)
