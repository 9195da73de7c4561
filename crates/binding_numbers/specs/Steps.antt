-- What the reader of a number promises: that the definition's answer at its place is the one that its own answer tells. Assumes nothing: these are definitions.
use Rattle.std.specs.Prelude.{◌≡◌, true, false, ◌&&◌, List, ℕ, ◌+◌, ◌-◌, ◌*◌, ◌≤◌, leb, ltb, eqb, length, drop, get_or, Option, Some, None, Result, Ok, Err}
use Rattle.language.specs.Words.{digit}
use Rattle.language.specs.Bindings.{Got, got, lost, after, byte, number_up_to}
use Rattle.binding_numbers.specs.declared.Went.{Went}
use Rattle.binding_numbers.specs.declared.Lost.{Lost}
use Rattle.language.specs.Limits.{limits}

-- what the greatest number of a line may be: any digit is within it, and it is within what a type may have
abbrev pub Greatest : ℕ → Type 0
Greatest most = (9 ≤ most) × (most ≤ limits.typeNumber)

-- the number that a digit makes of the one before it, where the digit may follow
unfoldable pub grown_of : ℕ → ℕ → ℕ → Option ℕ
grown_of most n b = elim (digit b && ltb 0 n && leb (n * 10 + (b - 48)) most) [ true ↦ Some (n * 10 + (b - 48)) | false ↦ None ]

-- the place after a byte that has to stand here
unfoldable pub passed : List ℕ → ℕ → ℕ → Result ℕ Lost
passed text b x = elim (ltb x (length text) && eqb (get_or text x 0) b) [ true ↦ Ok (x + 1) | false ↦ Err (record { at = x }) ]

-- a number and the end of its line
unfoldable pub ended : ℕ → List ℕ → Got ℕ
ended most bs = after (number_up_to most bs) (λ v y. byte 10 y (λ z. got v z))

-- a blank before it
unfoldable pub valued : ℕ → List ℕ → Got ℕ
valued most bs = byte 32 bs (λ x. ended most x)

-- ---- what an answer tells

-- where reading came to
abbrev pub Step : Type 0
Step = Result Went Lost

abbrev pub place : Step → ℕ
place (Ok r) = r.next
place (Err l) = l.at

abbrev pub value : Step → ℕ
value (Ok r) = r.number
value (Err l) = 0

unfoldable pub number_told : List ℕ → Step → Got ℕ
number_told text (Ok r) = got r.number (drop r.next text)
number_told text (Err l) = lost (drop l.at text)

-- it tells what the definition has, at a place of the text, with a value of at most so much
pub record Reads {T : Type 0} (text : List ℕ) (most : ℕ) (what : Got T) (told : Step → Got T) (r : Step) : Type 0 where
  pub tells : what ≡ told r
  pub inside : place r ≤ length text
  pub small : value r ≤ most
