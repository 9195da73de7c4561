-- The fixed words that are spelled like names. Assumes nothing: these are definitions.
use Rattle.std.specs.Prelude.{List, [], ◌∷◌, ◌++◌, ℕ, get_or}
use Prim.Native.String.{String}
use Rattle.language.specs.Words.{keywords, spellings}

-- the keywords, the default mark, and row 4's two words: those of Words.antt that a run of letters, digits and underscores can be
unfoldable pub fixed_names : List String
fixed_names = keywords ++ ("_" ∷ "foreach" ∷ "instruction" ∷ [])

-- how many there are
abbrev pub fixed_rows : ℕ
fixed_rows = 21

unfoldable pub row_of : ℕ → List ℕ
row_of i = get_or (spellings fixed_names) i []
