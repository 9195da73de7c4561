-- The kinds of the fixed words that are spelled like names, by their rows. Assumes nothing: these are definitions.
use Rattle.std.specs.Prelude.{true, false, List, [], ◌∷◌, ℕ, ◌+◌, ltb, eqb, Option, Some, None}

-- the keywords, then `_`, `foreach`, `instruction`
unfoldable pub row_kind : ℕ → ℕ
row_kind row = elim (ltb row 18) [ true ↦ 4 + row | false ↦ elim (eqb row 18) [ true ↦ 22 | false ↦ row + 41 ] ]

-- a sign of one byte or two
unfoldable pub sign_bytes : ℕ → Option ℕ → List ℕ
sign_bytes a None = a ∷ []
sign_bytes a (Some b) = a ∷ b ∷ []
