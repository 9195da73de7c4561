-- The lines of the bindings, by their text and the table that `bindings` fills. Assumes nothing: these are definitions.
use Rattle.std.specs.Prelude.{◌≡◌, List, [], ◌∷◌, ℕ, zero, suc, ◌+◌, ◌*◌, length, get_or, take, drop}
use Rattle.language.specs.Bindings.{Binding, Bindings, bindings_of, bound}
use Rattle.bindings.specs.Table.{table_of}
use Rattle.bindings.specs.declared.Lines.{Lines}
use Rattle.binding_names.specs.Names.{line_in}

-- the name of line i; the names of n lines from one on; the lines
abbrev pub name_on : (btext table : List ℕ) → ℕ → List ℕ
name_on btext table i = take (get_or table (3 * i + 1) 0) (drop (get_or table (3 * i) 0) btext)

unfoldable pub names_on : (btext table : List ℕ) → (from n : ℕ) → List (List ℕ)
names_on btext table from zero = []
names_on btext table from (suc n) = name_on btext table from ∷ names_on btext table (suc from) n

unfoldable pub lines_on : (btext table : List ℕ) → (from n : ℕ) → List Binding
lines_on btext table from zero = []
lines_on btext table from (suc n) = line_in btext table from ∷ lines_on btext table (suc from) n

-- a bindings text that was read, and the table that holds its lines, so many of widths and of values
pub record Binds (btext table : List ℕ) (lines : Lines) (b : Bindings) : Type 0 where
  pub reads : bindings_of btext ≡ bound b
  pub widths : lines.widths ≡ length b.widths
  pub values : lines.values ≡ length b.values
  pub holds : take (3 * (lines.widths + lines.values)) table ≡ table_of b
