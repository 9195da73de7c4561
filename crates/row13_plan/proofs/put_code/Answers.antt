-- `row13_plan::put_code` meets its contract: the code is stored after its count. Assumes nothing.
use native.Mathlib.Omega.{arith}
use Prim.Native.Nat.{◌+◌}
use mathlib.Core.Path.{◌∙◌}
use native.Mathlib.Numerals.{add-one}
use lib.ListN.{length, length-set}
use Rattle.laws.proofs.Tables.{part_stored}
use Rattle.row13_plan.proofs.put_code.Goals as goal

pub returns : goal.returns
returns c = part_stored _ _ c.args.code.now (c.args.from + 1) _ c.copy_from_slice.ensures.after (omega arith) (omega (arith, length-set c.args.plan.now c.args.from (length c.args.code.now))) ∙ rw (add-one c.args.from)
