-- `passed` meets its contract. Assumes nothing.
use mathlib.Core.Path.{refl, ◌∙◌}
use Rattle.tipirun.proofs.Stages.{read_on, over_actor, over_line, over_read, unread, rested}
use Rattle.tipirun.proofs.texts.passed.Goals as goal

pub returns-then-s-gt0 : goal.returns-then-s-gt0
returns-then-s-gt0 c = read_on _ _ _ _ c.if-s-gt0.true

pub returns-in-Actor : goal.returns-in-Actor
returns-in-Actor c = unread _ _ _ _ _ _ c.if-s-gt0.false c.in-Actor.is refl (c.at_stage.ensures ∙ over_actor _ _ _ c.if-s-gt0.false c.in-Actor.is)

pub returns-in-Bindings : goal.returns-in-Bindings
returns-in-Bindings c = over_read _ _ _ _ _ _ c.if-s-gt0.false c.in-Bindings.is c.judged.ensures

pub returns-in-Line : goal.returns-in-Line
returns-in-Line c = unread _ _ _ _ _ _ c.if-s-gt0.false c.in-Line.is refl (c.at_stage-in-Line.ensures ∙ over_line _ _ _ c.if-s-gt0.false c.in-Line.is)

pub returns-in-ActorCount : goal.returns-in-ActorCount
returns-in-ActorCount c = rested _ _ _ _ c.if-s-gt0.false c.in-ActorCount.is
