-- What is answered of a plan that is put together, and the sum of a list. Assumes nothing: these are definitions.
use Rattle.std.specs.Prelude.{Result, Ok, Err, true, false, List, [], ◌∷◌, ℕ, ◌+◌, ◌*◌, leb, length, take}
use Rattle.language.specs.declared.Text.{Text}
use Rattle.language.specs.declared.Text.TheVariants.{Actor as InActor}
use Rattle.row13_plan.specs.Made.{plan_in}
use Rattle.section_items.specs.Items.{items_of}
use Rattle.language.specs.declared.Refusal.{Refusal}

-- the plan's length, or a refusal with its number, its text and its place
abbrev pub Answer : Type 0
Answer = Result ℕ Refusal

abbrev pub Plan : ℕ → Answer
Plan n = Ok n

abbrev pub Refused : ℕ → Text → ℕ → Answer
Refused row text place = Err (record { row = row; text = text; place = place })

-- row 13: "plan longer than the lent table", at 0; else "Reading writes the plan at the table's start, gives its length and leaves the rest."
unfoldable pub made_of : List ℕ → List ℕ → Answer
made_of p table = elim (leb (length p) (length table)) [ true ↦ Plan (length p) | false ↦ Refused 13 InActor 0 ]

unfoldable pub sums : List ℕ → ℕ
sums [] = 0
sums (n ∷ l) = n + sums l

-- the plan of the first items of a table, with the code and the lengths of the rules
abbrev pub plan_from : List ℕ → ℕ → List ℕ → List ℕ → List ℕ
plan_from items many code lengths = plan_in (items_of (take (6 * many) items)) (take (sums lengths) code) lengths
