-- `lines::end` meets its contract. Assumes nothing.
use native.Mathlib.Omega.{arith}
use mathlib.Core.Path.{sym}
use Rattle.lines.proofs.Laws.{end_at, end_over}
use Rattle.lines.proofs.end.Goals as goal

pub returns-in-Some : goal.returns-in-Some
returns-in-Some c = let (h, e) = end_at c.args.text.now c.args.from c.in-Some.n c.requires (sym c.in-Some.ensures) in (omega arith, h, e)

pub returns-in-None : goal.returns-in-None
returns-in-None c = (c.requires, omega arith, end_over _ _ c.requires (sym c.in-None.ensures))
