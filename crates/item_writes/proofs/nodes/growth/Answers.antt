-- `item_writes::nodes::growth` meets its contract: each operation of a type does what it does. Assumes nothing.
use mathlib.Core.Path.{refl}
use native.Mathlib.Omega.{arith}
use Rattle.item_writes.specs.Walk.{around_of}
use Rattle.item_writes.specs.Tables.{grown_by}
use Rattle.item_writes.proofs.Writing.{grown_number, grown_bound, grown_port, grown_log, grown_floor, grown_ceil, grown_plus, grown_minus, grown_entry, grown_none}
use Rattle.item_writes.proofs.nodes.growth.Goals as goal

pub returns-in-1 : goal.returns-in-1
unfolding grown_by
returns-in-1 c = λ ws l. grown_number _ _ _ _ l c.in-1.is _ _ refl c.leaf.ensures

pub returns-in-2 : goal.returns-in-2
unfolding grown_by around_of
returns-in-2 c =
    λ ws l. grown_bound _ _ _ _ l c.in-2.is _ _ c.value-x.ensures c.leaf-in-2.ensures

pub returns-in-3 : goal.returns-in-3
unfolding grown_by around_of
returns-in-3 c = λ ws l. grown_port _ _ _ _ l c.in-3.is _ _ c.numbered.ensures.0 c.leaf-in-3.ensures

pub returns-in-6 : goal.returns-in-6
unfolding grown_by
returns-in-6 c = λ ws l. grown_log _ _ _ _ l c.in-6.is

pub returns-in-8 : goal.returns-in-8
unfolding grown_by
returns-in-8 c = λ ws l. grown_floor _ _ _ _ l c.in-8.is

pub returns-in-7 : goal.returns-in-7
unfolding grown_by
returns-in-7 c = λ ws l. grown_ceil _ _ _ _ l c.in-7.is

pub returns-in-4 : goal.returns-in-4
unfolding grown_by
returns-in-4 c = λ ws l. grown_plus _ _ _ _ l c.in-4.is

pub returns-in-5 : goal.returns-in-5
unfolding grown_by
returns-in-5 c = λ ws l. grown_minus _ _ _ _ l c.in-5.is

pub returns-in-10 : goal.returns-in-10
unfolding grown_by
returns-in-10 c = λ ws l. grown_entry _ _ _ _ l c.in-10.is

pub returns-in_default : goal.returns-in_default
unfolding grown_by
returns-in_default c =
    λ ws l. grown_none _ _ _ _ l (omega arith) (omega arith) (omega arith) (omega arith) (omega arith) (omega arith) (omega arith) (omega arith) (omega arith)
