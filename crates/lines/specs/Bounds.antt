-- Where a line of a text starts and ends, by lists, and what it is for bytes to be a line of a text. Assumes nothing: these are definitions.
use Rattle.std.specs.Prelude.{true, false, ◌≡◌, List, [], ℕ, zero, suc, ◌+◌, ◌≤◌, ◌<◌, eqb, length, get_or, take, drop}
use Rattle.language.specs.Text.{Line, up_to_end, line_at}
use Rattle.language.specs.declared.Text.{Text}
use Rattle.language.specs.declared.Text.TheVariants.{Actor as InActor, Bindings as InBindings}

-- past the last line end before the place, or at the text's start
unfoldable pub start_of : List ℕ → ℕ → ℕ
start_of text zero = zero
start_of text (suc p) = elim (eqb (get_or text p 0) 10) [ true ↦ suc p | false ↦ start_of text p ]

-- at the next line end, or at the text's end
unfoldable pub end_of : List ℕ → ℕ → ℕ
end_of text from = from + length (up_to_end (drop from text))

-- "whichever of the two texts the place names": of both texts' bytes, or of where both lie
unfoldable pub of_text : {A : Type 0} → A → A → Text → A
of_text actor bindings InActor = actor
of_text actor bindings InBindings = bindings

-- the bytes are the line's, and the part begins in its text where the line does: `at` and `lies` are where the part and the text lie in memory, a block and a number of bytes into it
pub record LineStands (text : List ℕ) (lies : ℕ × ℕ) (line : Line) (r : List ℕ) (at : ℕ × ℕ) : Type 0 where
  pub bytes : r ≡ line.bytes
  pub part : take (length r) (drop line.from text) ≡ r
  pub block : at.0 ≡ lies.0
  pub begins : at.1 ≡ lies.1 + line.from

-- the line at a place of the text that is meant, out of both texts and where they lie
abbrev pub LineOf : (actor bindings : List ℕ) (actor_lies bindings_lie : ℕ × ℕ) → Text → ℕ → List ℕ → ℕ × ℕ → Type 0
LineOf actor bindings actor_lies bindings_lie which place r at = LineStands (of_text actor bindings which) (of_text actor_lies bindings_lie which) (line_at actor bindings which place) r at

-- ---- the same, said of the text alone

-- a line: no line end in it, the text's start or a line end before it, a line end or the text's end after it
pub record IsLine (text : List ℕ) (from : ℕ) (r : List ℕ) : Type 0 where
  pub stands : take (length r) (drop from text) ≡ r
  pub unbroken : (i : ℕ) → i < length r → get_or r i 0 ≡ 10 → ⊥
  pub starts : (i : ℕ) → from ≡ suc i → get_or text i 0 ≡ 10
  pub ends : from + length r < length text → get_or text (from + length r) 0 ≡ 10

-- the part is the line around the place, its line end counted with it, and begins there; "A place outside its text gets the empty part at that text's end."
pub record IsLineAt (text : List ℕ) (lies : ℕ × ℕ) (place : ℕ) (r : List ℕ) (at : ℕ × ℕ) : Type 0 where
  pub from : ℕ
  pub block : at.0 ≡ lies.0
  pub begins : at.1 ≡ lies.1 + from
  pub inside : place < length text → IsLine text from r × (from ≤ place) × (place ≤ from + length r)
  pub outside : length text ≤ place → (from ≡ length text) × (r ≡ [])
