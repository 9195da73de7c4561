-- Settled items, and what each gives its section of the plan, as numbers (docs/PLAN.md). Assumes nothing: these are definitions.
use Rattle.std.specs.Prelude.{ℕ, suc, ◌+◌, ◌%◌, ◌^◌, true, false, ◌&&◌, List, [], ◌∷◌, ◌++◌, ◌==◌, slice_index}
use Rattle.settled.specs.Form.{PRESENT, RULE, RULED, OR}

-- ---- the items: of the six numbers of each, its operation and its operands a and b

pub record Item : Type 0 where
  pub op : ℕ
  pub a : ℕ
  pub b : ℕ

unfoldable pub items_of : List ℕ → List Item
items_of [] = []
items_of (o ∷ []) = []
items_of (o ∷ p ∷ []) = []
items_of (o ∷ p ∷ a ∷ []) = []
items_of (o ∷ p ∷ a ∷ b ∷ []) = []
items_of (o ∷ p ∷ a ∷ b ∷ c ∷ []) = []
items_of (o ∷ p ∷ a ∷ b ∷ c ∷ d ∷ l) = record { op = o; a = a; b = b } ∷ items_of l

-- how many items have an operation
unfoldable pub counted : ℕ → List Item → ℕ
counted op [] = 0
counted op (i ∷ l) = elim (i.op == op) [ true ↦ suc (counted op l) | false ↦ counted op l ]

-- what the items of an operation give in order, each of its number, of itself and of the items after it; k came before
unfoldable pub picked : ℕ → (ℕ → Item → List Item → List ℕ) → ℕ → List Item → List ℕ
picked op give k [] = []
picked op give k (i ∷ l) = elim (i.op == op) [ true ↦ give k i l ++ picked op give (suc k) l | false ↦ picked op give k l ]

-- ---- a group: its rules stand before the next group

unfoldable pub rules_up_to : List Item → ℕ
rules_up_to [] = 0
rules_up_to (i ∷ l) = elim (i.op == OR) [ true ↦ 0 | false ↦ elim (i.op == RULE) [ true ↦ suc (rules_up_to l) | false ↦ rules_up_to l ] ]

-- ---- a rule: the ports that it lists as present, b = 1, or as absent, b = 0, stand before its end

unfoldable pub bit_of : ℕ → Item → ℕ
bit_of b i = elim (i.op == PRESENT && i.b == b) [ true ↦ 2 ^ i.a | false ↦ 0 ]

unfoldable pub mask_up_to : ℕ → List Item → ℕ
mask_up_to b [] = 0
mask_up_to b (i ∷ l) = elim (i.op == RULED) [ true ↦ 0 | false ↦ bit_of b i + mask_up_to b l ]

-- ---- the sections

abbrev pub port_numbers : ℕ → Item → List Item → List ℕ
port_numbers k i l = i.a ∷ []

abbrev pub memory_numbers : ℕ → Item → List Item → List ℕ
memory_numbers k i l = i.a ∷ i.b ∷ []

abbrev pub group_numbers : ℕ → Item → List Item → List ℕ
group_numbers k i l = rules_up_to l ∷ []

-- a mask is a number of 32 bits
abbrev pub rule_numbers : List ℕ → ℕ → Item → List Item → List ℕ
rule_numbers lengths k i l = mask_up_to 1 l % 2 ^ 32 ∷ mask_up_to 0 l % 2 ^ 32 ∷ slice_index lengths k ∷ []
