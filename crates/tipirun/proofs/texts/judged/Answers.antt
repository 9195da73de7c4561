-- `judged` meets its contract. Assumes nothing.
use mathlib.Core.Path.{sym}
use native.Mathlib.Omega.{arith}
use lib.Seq.{length-take-le}
use Rattle.tipirun.proofs.Stages.{told, told_plan, told_refused}
use Rattle.tipirun.proofs.texts.judged.Goals as goal

pub returns-in-Ok : goal.returns-in-Ok
returns-in-Ok c = told _ _ _ _ _ _ _ _ _ c.min-k.ensures c.min-m.ensures c.read.ensures (told_plan _ _ _ _ c.in-Ok.is c.planned.ensures)

pub returns-in-Err : goal.returns-in-Err
returns-in-Err c = told _ _ _ _ _ _ _ _ _ c.min-k.ensures c.min-m.ensures c.read.ensures (told_refused _ _ _ _ c.in-Err.is c.at_stage.ensures)
