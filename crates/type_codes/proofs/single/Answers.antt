-- `row10_widths::codes::single` meets its contract. Assumes nothing.
use mathlib.Core.Path.{ap}
use mathlib.Core.List.{[], ◌∷◌}
use Prim.Native.Nat.{ℕ}
use Rattle.type_codes.proofs.Slots.{filled_as}
use Rattle.type_codes.proofs.single.Goals as goal

pub returns : goal.returns
returns c = filled_as (ap (λ (y : ℕ). y ∷ []) c.number_node.ensures) c.append.ensures
