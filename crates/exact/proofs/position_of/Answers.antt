-- `exact::position_of` meets its contract. Assumes nothing.
use mathlib.Core.Path.{◌≡◌, ap, ◌∙◌}
use mathlib.Core.Bool.{true, false}
use mathlib.Core.Option.{none, some}
use Prim.Native.Nat.{ℕ, ◌-◌, ◌≤◌}
use native.Mathlib.Nat.{lt_of_not-le}
use lib.Dec.{leb}
use borrow.Author.Tests.{le-leb, lt-leb}
use Rattle.std.specs.Prelude.{Option, Some, None, SomeIff}
use Rattle.language.specs.declared.Exact.{Exact}
use Rattle.language.specs.Types.{position_of, width_of}
use Rattle.exact.specs.Room.{positioned}
use Rattle.exact.proofs.position_of.Goals as goal

-- what a floored value gives
abbrev from : Exact → Option ℕ
from f = positioned (elim (leb f.down f.up) [ true ↦ some (f.up - f.down) | false ↦ none ])

told : (r : Option ℕ) (f : Exact) → SomeIff r (f.down ≤ f.up) (f.up - f.down) → r ≡ from f
told (Some n) f h = rw (le-leb f.down f.up h.0) (ap (λ (x : ℕ). Some x) h.1)
told None f h = rw (lt-leb f.down f.up (lt_of_not-le h))

pub returns : goal.returns
unfolding position_of width_of
returns c = told c.checked_sub.result c.floor-f.result c.checked_sub.ensures ∙ ap from c.floor-f.ensures
