-- `Tables::write` meets its contract. Assumes nothing.
use native.Mathlib.Omega.{arith}
use Prim.Native.Nat.{◌+◌}
use Rattle.item_steps.proofs.Writes.{write_past, write_in, buffered_clash, buffered_first}
use Rattle.item_steps.proofs.Tables.write.Goals as goal

pub returns-then-a-from-clause-after : goal.returns-then-a-from-clause-after
returns-then-a-from-clause-after g c =
    let args = c.args in
    λ memory qs h j b. rw (write_past args.f args.size args.a args.v qs (rw c.from.ensures at c.if-a-from.true)) b

pub returns-then-self-at-clause-after : goal.returns-then-self-at-clause-after
returns-then-self-at-clause-after g c =
    let args = c.args in
    let t = args.self.now in
    λ memory qs h j b. let l = rw c.from.ensures at c.if-a-from.false in
    rw (write_in args.f args.size args.a args.v qs l) (buffered_clash memory t.next t.changed t.clash qs (args.f + args.a) args.v
    (omega arith) b (rw c.from-2.ensures at c.if-self-at.true))

pub returns-clause-after : goal.returns-clause-after
returns-clause-after g c =
    let args = c.args in
    let t = args.self.now in
    λ memory qs h j b. let l = rw c.from.ensures at c.if-a-from.false in
    rw (write_in args.f args.size args.a args.v qs l, c.from-2.ensures) (buffered_first memory t.next t.changed t.clash qs (args.f + args.a)
    args.v (omega arith) b (rw c.from-2.ensures at c.if-self-at.false) (omega arith) (omega arith))
