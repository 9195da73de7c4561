-- `type_value::width_at` meets its contract. Assumes nothing.
use mathlib.Core.Path.{ap, ◌∙◌}
use Rattle.language.specs.Types.{width_of}
use Rattle.type_value.proofs.width_at.Goals as goal

pub returns : goal.returns
returns c = record {
  each_type = λ t s y h. c.width_of.ensures ∙ ap width_of (c.value_at.ensures.each_type t s y h);
  value = λ h. c.width_of.ensures ∙ ap width_of (c.value_at.ensures.value h);
}
