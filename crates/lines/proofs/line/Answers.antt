-- `lines::line` meets its contract: it is the line of the text that is meant. Assumes nothing.
use Rattle.language.specs.Text.{line_at}
use Rattle.lines.specs.Bounds.{of_text}
use Rattle.lines.proofs.line.Goals as goal

pub returns-in-Actor : goal.returns-in-Actor
unfolding line_at of_text
returns-in-Actor c = rw c.in-Actor.is c.of.ensures

pub returns-in-Bindings : goal.returns-in-Bindings
unfolding line_at of_text
returns-in-Bindings c = rw c.in-Bindings.is c.of-in-Bindings.ensures
