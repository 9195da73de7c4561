-- The bindings as the program holds them: three numbers for each line, the place of its name, the name's length in bytes, and its width or value; the widths' lines first.
-- Assumes nothing: these are definitions.
use Rattle.std.specs.Prelude.{◌≡◌, refl, Bool, true, false, ◌&&◌, List, [], ◌∷◌, ◌++◌, ℕ, ◌+◌, ◌*◌, ◌≤◌, leb, length, Result, Ok, Err}
use Rattle.std.proofs.lemmas.List.Edits.{sets}
use Rattle.language.specs.Limits.{limits}
use Rattle.language.specs.Bindings.{Binding, Bindings, bindings_of, bound, wrong_at}
use Rattle.bindings.specs.declared.Fault.{Fault}
use Rattle.bindings.specs.declared.Fault.TheVariants.{Wrong, NoRoom}
use Rattle.bindings.specs.declared.Lines.{Lines}

unfoldable pub cells : List Binding → List ℕ
cells [] = []
cells (b ∷ l) = b.called.at ∷ length b.called.spelled ∷ b.value ∷ cells l

unfoldable pub table_of : Bindings → List ℕ
table_of b = cells b.widths ++ cells b.values

-- the most numbers of a table: three for each line, and two sections of lines
abbrev pub most_numbers : ℕ
most_numbers = 96

pub sizes : most_numbers ≡ 2 * (3 * limits.lines)
sizes = refl

-- so many lines of widths and of values; a table with room for them
abbrev pub so_many : (widths values : ℕ) → Lines
so_many widths values = record { widths = widths; values = values }

abbrev pub Lined : Lines → List ℕ → Type 0
Lined lines t = 3 * (lines.widths + lines.values) ≤ length t

-- the text is short enough (row 1 has tested that) and a table of any bindings fits
unfoldable pub roomy : List ℕ → List ℕ → Bool
roomy text t = leb (length text) limits.bindings && leb most_numbers (length t)

-- what is answered, and what the lent table then holds: of a refusal what it held before
abbrev pub Answer : Type 0
Answer = Result Lines Fault

unfoldable pub answer_of : List ℕ → List ℕ → Answer
answer_of text t = elim (roomy text t) [ false ↦ Err NoRoom | true ↦ elim (bindings_of text) [ bound b ↦ Ok (so_many (length b.widths) (length b.values)) | wrong_at p ↦ Err (Wrong p) ] ]

unfoldable pub table_after : List ℕ → List ℕ → List ℕ
table_after text t = elim (roomy text t) [ false ↦ t | true ↦ elim (bindings_of text) [ bound b ↦ sets t 0 (table_of b) | wrong_at p ↦ t ] ]

-- lines, the last one first, put in order before others
unfoldable pub onto : List Binding → List Binding → List Binding
onto [] l = l
onto (b ∷ r) l = onto r (b ∷ l)
