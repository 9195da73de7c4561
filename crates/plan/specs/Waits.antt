-- The numbers that wait in a table. Assumes nothing: these are definitions.
use Rattle.std.specs.Prelude.{List, [], ◌∷◌, ℕ, zero, suc, get_or}

-- the first n numbers of a table, the latest first
unfoldable pub top : List ℕ → ℕ → List ℕ
top s zero = []
top s (suc n) = get_or s n 0 ∷ top s n
