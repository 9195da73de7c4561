-- `step` meets its contract. Assumes nothing.
use native.Mathlib.Omega.{arith}
use mathlib.Core.Path.{refl}
use Rattle.item_steps.proofs.Leaves.{keeps, assigns, writes, left_as, value_left}
use Rattle.plan.proofs.Arms.{leaves}
use Rattle.item_steps.proofs.step.Goals as goal

pub store-requires : goal.store-requires
store-requires g c =
    (rw c.in-Keep.is at c.requires.ready.asks, rw c.in-Keep.is at c.requires.ready.there, omega (arith, c.requires.n_le_waiting.0))

pub store-requires-in-Assign : goal.store-requires-in-Assign
store-requires-in-Assign g c =
    (rw c.in-Assign.is at c.requires.ready.asks, rw c.in-Assign.is at c.requires.ready.there, omega (arith, c.requires.n_le_waiting.0))

pub last-x-requires : goal.last-x-requires
last-x-requires g c =
    let h = rw c.in-Write.is at c.requires.ready.there in
    (omega (arith, h), omega (arith, c.requires.n_le_waiting.0))

pub last-y-requires : goal.last-y-requires
last-y-requires g c =
    let h = rw c.in-Write.is at c.requires.ready.there in
    (omega (arith, h), omega (arith, c.requires.n_le_waiting.0))

pub overflow_sub-result : goal.overflow_sub-result
overflow_sub-result g c =
    rw c.in-Write.is at c.requires.ready.there

pub write-requires : goal.write-requires
write-requires g c =
    let h = rw c.in-Write.is at c.requires.ready.asks in
    omega (arith, h, c.requires.n_le_waiting.1)

pub leave-requires : goal.leave-requires
leave-requires g c =
    let args = c.args in
    (c.requires.n_le_waiting.0, leaves args.i c.in_default.not-Keep c.in_default.not-Assign c.in_default.not-Write, (args.outputs.now, c.requires.ready))

pub returns-in-Keep : goal.returns-in-Keep
returns-in-Keep g c =
    let args = c.args in record {
      waits_le_waiting = rw c.store.ensures.0 (omega (arith, c.requires.n_le_waiting.0));
      fact = λ qs b. left_as _ _ _ _ _ qs
          (rw (c.store.ensures.0, c.store.ensures.1) (keeps args.values.now args.memory.now args.tables.now.stack args.n args.slots.now args.outputs.now qs _ _
          c.in-Keep.is refl (rw c.in-Keep.is at c.requires.ready.there) refl)) b;
    }

pub returns-in-Assign : goal.returns-in-Assign
returns-in-Assign g c =
    let args = c.args in record {
      waits_le_waiting = rw c.store-in-Assign.ensures.0 (omega (arith, c.requires.n_le_waiting.0));
      fact = λ qs b. left_as _ _ _ _ _ qs
          (rw (c.store-in-Assign.ensures.0, c.store-in-Assign.ensures.1) (assigns args.values.now args.memory.now args.tables.now.stack args.n args.slots.now args.outputs.now qs _ _
          c.in-Assign.is refl (rw c.in-Assign.is at c.requires.ready.there) refl)) b;
    }

pub returns-in-Write : goal.returns-in-Write
returns-in-Write g c =
    let args = c.args in
    let h = rw c.in-Write.is at c.requires.ready.asks in record {
      waits_le_waiting = omega arith;
      fact = λ qs b. left_as _ _ _ _ _ _ (rw c.write.ensures.stack (writes args.values.now args.memory.now args.tables.now.stack args.n args.slots.now args.outputs.now qs _ _
          c.in-Write.is (rw c.in-Write.is at c.requires.ready.there) c.last-x.ensures c.last-y.ensures)) (c.write.ensures.after args.memory.now qs h c.requires.n_le_waiting.1 b);
    }

pub returns-in_default : goal.returns-in_default
returns-in_default g c =
    let args = c.args in record {
      waits_le_waiting = c.leave.ensures.upper_bound;
      fact = λ qs b. left_as _ _ _ _ _ qs (value_left args.values.now args.memory.now args.tables.now.stack _ args.n c.leave.result args.slots.now
          args.outputs.now qs args.i (leaves args.i c.in_default.not-Keep c.in_default.not-Assign c.in_default.not-Write) c.requires.ready c.leave.ensures.result_after) b;
    }
