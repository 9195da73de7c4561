-- `exact::at_most` meets its contract. Assumes nothing.
use native.Mathlib.Nat.{pos_of_ne-zero, le_of_lt}
use Rattle.exact.proofs.Compare.{cmp_up, cmp_up_far, cmp_down, cmp_down_far}
use Rattle.exact.proofs.at_most.Goals as goal

pub returns-then-d-lt64 : goal.returns-then-d-lt64
returns-then-d-lt64 c = cmp_up c.args.p c.args.q c.args.a c.args.b c.if-p-q.true (pos_of_ne-zero c.if-a-eq0.false)

pub returns-else-d-lt64 : goal.returns-else-d-lt64
returns-else-d-lt64 c = cmp_up_far c.args.p c.args.q c.args.a c.args.b c.if-p-q.true (pos_of_ne-zero c.if-a-eq0.false) c.ranges.a.fits c.if-d-lt64.false

pub returns-then-d-lt64-2 : goal.returns-then-d-lt64-2
returns-then-d-lt64-2 c = cmp_down c.args.p c.args.q c.args.a c.args.b (le_of_lt c.if-p-q.false)

pub returns-else-d-lt64-2 : goal.returns-else-d-lt64-2
returns-else-d-lt64-2 c = cmp_down_far c.args.p c.args.q c.args.a c.args.b (le_of_lt c.if-p-q.false) c.ranges.b.fits c.if-d-lt64-2.false
