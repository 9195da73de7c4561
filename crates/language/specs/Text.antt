-- Texts, names and places, of which every section speaks. A text is the list of its bytes. Assumes nothing: these are definitions.
use Rattle.std.specs.Prelude.{Bool, true, false, ◌&&◌, List, [], ◌∷◌, ◌++◌, ℕ, zero, suc, ◌+◌, min, eqb, length}
use Rattle.std.proofs.Math.Option.{Option, none, some}
use Rattle.language.specs.declared.Text.{Text}
use Rattle.language.specs.declared.Text.TheVariants.{Actor as InActor, Bindings as InBindings}

-- Two names are the same where their bytes are.
unfoldable pub same : List ℕ → List ℕ → Bool
same [] [] = true
same [] (b ∷ t) = false
same (a ∷ s) [] = false
same (a ∷ s) (b ∷ t) = eqb a b && same s t

-- "A place is the byte offset of the first byte meant". A name as it stands at a place:
pub record Name : Type 0 where
  pub at : ℕ
  pub spelled : List ℕ

-- where a name stands first in a list of names; past the end where it does not
unfoldable pub index : List (List ℕ) → List ℕ → ℕ
index [] s = zero
index (n ∷ ns) s = elim (same n s) [ true ↦ zero | false ↦ suc (index ns s) ]

unfoldable pub among : List (List ℕ) → List ℕ → Bool
among [] s = false
among (n ∷ ns) s = elim (same n s) [ true ↦ true | false ↦ among ns s ]

-- "within one the earliest place decides"
unfoldable pub earliest : List ℕ → Option ℕ
earliest [] = none
earliest (p ∷ ps) = elim (earliest ps) [ none ↦ some p | some q ↦ some (min p q) ]

-- "The line at fault can be had as a part of whichever of the two texts the place names, without its line end."
-- A part of a text: where it starts, and its bytes.
pub record Line : Type 0 where
  pub from : ℕ
  pub bytes : List ℕ

unfoldable pub up_to_end : List ℕ → List ℕ
up_to_end [] = []
up_to_end (b ∷ r) = elim (eqb b 10) [ true ↦ [] | false ↦ b ∷ up_to_end r ]

-- the line starts at `from`, `before` are its bytes so far, and p counts down to the place
-- "A place outside its text gets the empty part at that text's end."
unfoldable pub line_from : ℕ → List ℕ → List ℕ → ℕ → Line
line_from from before [] p = record { from = from + length before; bytes = [] }
line_from from before (b ∷ r) zero = record { from = from; bytes = before ++ up_to_end (b ∷ r) }
line_from from before (b ∷ r) (suc p) = elim (eqb b 10) [ true ↦ line_from (from + length before + 1) [] r p | false ↦ line_from from (before ++ (b ∷ [])) r p ]

unfoldable pub line_at : (actor bindings : List ℕ) → Text → ℕ → Line
line_at actor bindings InActor p = line_from 0 [] actor p
line_at actor bindings InBindings p = line_from 0 [] bindings p
