-- `lines::start` meets its contract. Assumes nothing.
use native.Mathlib.Omega.{arith}
use mathlib.Core.Path.{sym}
use Rattle.lines.proofs.Laws.{start_past, start_first}
use Rattle.lines.proofs.start.Goals as goal

pub returns-in-Some : goal.returns-in-Some
returns-in-Some c = (omega arith, (start_past c.args.text.now c.args.place c.in-Some.n c.requires (sym c.in-Some.ensures)).1)

pub returns-in-None : goal.returns-in-None
returns-in-None c = (omega arith, start_first _ _ c.requires (sym c.in-None.ensures))
