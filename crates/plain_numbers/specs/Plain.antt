-- A plain number whose value stops growing past the limit. Assumes nothing: these are definitions.
use Rattle.std.specs.Prelude.{◌≡◌, refl, true, false, ℕ, ◌+◌, ◌-◌, ◌*◌, ltb}
use Rattle.language.specs.Limits.{limits}
use Rattle.signs.specs.declared.Item.{Item}
use Rattle.signs.specs.declared.Item.TheVariants.{Word as IsWord, Wrong}

-- a number with one digit more, which past the limit stops growing
unfoldable pub capped_of : ℕ → ℕ → ℕ
capped_of v b = elim (ltb limits.number v) [ true ↦ v | false ↦ v * 10 + (b - 48) ]

-- what a number within the limit grows to by a digit
abbrev pub most_capped : ℕ
most_capped = 42_949_672_959

pub sizes : most_capped ≡ limits.number * 10 + 9
sizes = refl

unfoldable pub number_item : ℕ → ℕ → Item
number_item n v = elim (ltb limits.number v) [ true ↦ Wrong | false ↦ IsWord 1 n v ]
