-- The plan that the settled items of an actor make, with the code of its rules and the code's lengths, as a list of numbers (docs/PLAN.md). Assumes nothing: these are definitions.
use Rattle.std.specs.Prelude.{Option as Optional, Some, None, true, false, List, ◌∷◌, ◌++◌, ℕ, leb, length}
use Rattle.std.proofs.lemmas.List.Edits.{sets}
use Rattle.settled.specs.Form.{RULE, OR, MEMORY, SIGNED}
use Rattle.section_items.specs.Items.{Item, counted, picked, port_numbers, memory_numbers, group_numbers, rule_numbers}

-- a section after its count
unfoldable pub plan_in : List Item → List ℕ → List ℕ → List ℕ
plan_in items code lengths =
    1 ∷ counted SIGNED items ∷ (picked SIGNED port_numbers 0 items
    ++ (counted MEMORY items ∷ (picked MEMORY memory_numbers 0 items
    ++ (counted OR items ∷ (picked OR group_numbers 0 items
    ++ (counted RULE items ∷ (picked RULE (rule_numbers lengths) 0 items
    ++ (length code ∷ code))))))))

-- what is answered, and what the lent table then holds: the plan at its start, or where that has no room what it held before
unfoldable pub answer_of : List ℕ → List ℕ → Optional ℕ
answer_of p t = elim (leb (length p) (length t)) [ true ↦ Some (length p) | false ↦ None ]

unfoldable pub table_after : List ℕ → List ℕ → List ℕ
table_after p t = elim (leb (length p) (length t)) [ true ↦ sets t 0 p | false ↦ t ]
