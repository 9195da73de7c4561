-- `row08_types::counted` meets its contract. Assumes nothing.
use Rattle.std.proofs.Common.{arith}
use Rattle.row08_types.proofs.Turns.{counted_aside, counted_log, counted_whole, counted_other, coming_most}
use Rattle.row08_types.proofs.counted.Goals as goal

pub returns-then-s-gt0 : goal.returns-then-s-gt0
returns-then-s-gt0 c = counted_aside c.args.s c.args.k c.if-s-gt0.true c.coming.ensures

pub returns-in-Log : goal.returns-in-Log
returns-in-Log c = (counted_log c.args.s c.args.k c.if-s-gt0.false c.in-Log.is, omega arith)

pub returns-in-Whole : goal.returns-in-Whole
returns-in-Whole c = (counted_whole c.args.s c.args.k c.if-s-gt0.false c.in-Whole.is c.saturating_sub.ensures, omega (arith, c.saturating_sub.ensures))

pub returns-in_default : goal.returns-in_default
returns-in_default c =
    let most = coming_most c.args.s.need c.args.k in (
      counted_other c.args.s c.args.k c.if-s-gt0.false c.in_default.not-Log c.in_default.not-Whole c.coming-in_default.ensures,
      omega (arith, c.coming-in_default.ensures),
    )
