-- `item_effects::over::binary_width` meets its contract: the width is the operator's. Assumes nothing.
use mathlib.Core.Path.{sym, ◌∙◌}
use Rattle.size_walk.specs.Effects.{binary_wide, between_width}
use Rattle.item_effects.proofs.Widths.{same_widths}
use Rattle.item_effects.proofs.over.binary_width.Goals as goal

pub returns-in-Between : goal.returns-in-Between
unfolding binary_wide between_width
returns-in-Between c = let s = same_widths _ _ _ _ _ _ (sym c.binary_item.ensures ∙ c.in-Between.is) in rw (← c.binary_item.ensures, c.in-Between.is, s.0, s.1) c.binary_width.ensures
