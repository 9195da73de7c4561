-- `tape::same_name` meets its contract. Assumes nothing.
use mathlib.Core.Path.{ap₂, ◌∙◌}
use Rattle.language.specs.Text.{same}
use Rattle.tape.proofs.same_name.Goals as goal

pub returns : goal.returns
returns c = c.same_bytes.ensures ∙ ap₂ same c.name.ensures c.name-2.ensures
