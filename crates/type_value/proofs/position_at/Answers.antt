-- `type_value::position_at` meets its contract. Assumes nothing.
use mathlib.Core.Path.{ap, ◌∙◌}
use Rattle.language.specs.declared.Exact.{Exact}
use Rattle.language.specs.Types.{position_of}
use Rattle.exact.specs.Room.{positioned}
use Rattle.type_value.proofs.position_at.Goals as goal

pub returns : goal.returns
returns c = record {
  each_type = λ t s y h. c.position_of.ensures ∙ ap (λ (x : Exact). positioned (position_of x)) (c.value_at.ensures.each_type t s y h);
  value = λ h. c.position_of.ensures ∙ ap (λ (x : Exact). positioned (position_of x)) (c.value_at.ensures.value h);
}
