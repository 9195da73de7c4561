-- `spelling::is_plain` meets its contract. Assumes nothing.
use mathlib.Core.Path.{◌∙◌}
use Rattle.spelling.proofs.Laws.{plain_std}
use Rattle.spelling.proofs.is_plain.Goals as goal

pub returns : goal.returns
returns c = c.is_ascii_alphanumeric.ensures.value ∙ plain_std c.args.b
