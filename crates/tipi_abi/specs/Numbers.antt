-- An answer of `tipi::read` as three numbers. Assumes nothing: these are definitions.
use Rattle.std.specs.Prelude.{◌≡◌, List, ℕ, set, Ok, Err}
use Rattle.language.specs.declared.Text.{Text}
use Rattle.language.specs.declared.Text.TheVariants.{Actor, Bindings}
use Rattle.tipi.specs.Told.{Read}
use Rattle.plan_answer.specs.Answered.{Answer}

-- the number of a refusal, or 0 for a plan
unfoldable pub row_of : Answer → ℕ
row_of (Ok n) = 0
row_of (Err why) = why.row

-- the place of a refusal, or the plan's length
unfoldable pub place_of : Answer → ℕ
place_of (Ok n) = n
place_of (Err why) = why.place

-- the text of a place: 0 the actor's, 1 the bindings'
unfoldable pub number_of : Text → ℕ
number_of Actor = 0
number_of Bindings = 1

-- the text of a refusal, or 0 for a plan
unfoldable pub text_of : Answer → ℕ
text_of (Ok n) = 0
text_of (Err why) = number_of why.text

-- the two numbers that are told beside the row
abbrev pub told_of : Answer → List ℕ → List ℕ
told_of x told = set (set told 0 (place_of x)) 1 (text_of x)

-- the numbers and the table are those of an answer that `tipi::read` gives
pub record Numbered (text bindings : List ℕ) (row : ℕ) (before after : List ℕ) (told numbers : List ℕ) : Type 0 where
  pub answer : Answer
  pub reads : Read text bindings answer before after
  pub number : row ≡ row_of answer
  pub others : numbers ≡ told_of answer told
