-- The sections that items give numbers to, one by one, and what each function that puts some promises. Assumes nothing: these are definitions.
use Rattle.std.specs.Prelude.{◌≡◌, ℕ, ◌+◌, ◌*◌, ◌≤◌, List, ◌∷◌, length, drop, slice_index}
use Rattle.std.proofs.lemmas.List.Edits.{sets}
use Rattle.settled.specs.Form.{RULE, OR, MEMORY, SIGNED, most_settled}
use Rattle.section_items.specs.Items.{Item, items_of, counted, picked, port_numbers, memory_numbers, group_numbers, rule_numbers}
use Rattle.section_items.specs.declared.Section.{Section}
use Rattle.section_items.specs.declared.Section.TheVariants.{Ports, Memories, Groups, Rules}

-- the items from a place on
abbrev pub items_from : List ℕ → ℕ → List Item
items_from t i = items_of (drop i t)

abbrev pub item_at : List ℕ → ℕ → Item
item_at t i = record { op = slice_index t i; a = slice_index t (i + 2); b = slice_index t (i + 3) }

-- the operation of the items of a section
abbrev pub mark_of : Section → ℕ
mark_of Ports = SIGNED
mark_of Memories = MEMORY
mark_of Groups = OR
mark_of Rules = RULE

-- how many numbers each gives
abbrev pub width_of : Section → ℕ
width_of Ports = 1
width_of Memories = 2
width_of Groups = 1
width_of Rules = 3

unfoldable pub numbers_of : Section → List ℕ → ℕ → Item → List Item → List ℕ
numbers_of Ports lengths = port_numbers
numbers_of Memories lengths = memory_numbers
numbers_of Groups lengths = group_numbers
numbers_of Rules lengths = rule_numbers lengths

unfoldable pub section_of : Section → List ℕ → List Item → List ℕ
section_of s lengths items = counted (mark_of s) items ∷ picked (mark_of s) (numbers_of s lengths) 0 items

-- the items are no more than an actor's settled ones
abbrev pub Few : List ℕ → Type 0
Few t = length t ≤ 6 * most_settled

-- numbers stand from a place of the table on, and the place after them
pub record Put (s : List ℕ) (b : ℕ) (l : List ℕ) (n : ℕ) (t : List ℕ) : Type 0 where
  pub ends : n ≡ b + length l
  pub holds : t ≡ sets s b l
