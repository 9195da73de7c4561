-- A code walked node by node with the values that wait, and these as the code has them. Assumes nothing: these are definitions.
use Rattle.std.specs.Prelude.{◌≡◌, Bool, true, false, ◌&&◌, ◌||◌, List, [], ◌∷◌, ℕ, zero, suc, ◌-◌, ◌/◌, ◌%◌, ◌≤◌, ◌<◌, eqb, ltb, length, get_or, take, drop, Option, Some, None}
use Rattle.language.specs.Limits.{limits}
use Rattle.language.specs.declared.Exact.{Exact}
use Rattle.type_value.specs.declared.OnOne.{OnOne}
use Rattle.type_value.specs.declared.OnOne.TheVariants.{Log, Floor, Ceil}
use Rattle.type_value.specs.declared.OnTwo.{OnTwo}
use Rattle.type_value.specs.declared.OnTwo.TheVariants.{Plus, Minus, Greater}
use Rattle.type_value.specs.declared.Node.{Node}
use Rattle.type_value.specs.declared.Node.TheVariants.{Number, Port, One, Two}
use Rattle.exact.specs.Room.{Space, Room}
use Rattle.language.specs.Types.{whole_of, log_of, plus_of, minus_of, greater_of, floor_of, ceil_of, width_of}
use Rattle.type_value.specs.Terms.{Term, code, TypeOf, Small}
use Rattle.exact_room.specs.Tests.{has_space, has_room}

-- the part of a list from one index to another
abbrev pub part : List ℕ → ℕ → ℕ → List ℕ
part l from end = take (end - from) (drop from l)

-- the code of t stands there
pub record TermStands (t : Term) (l : List ℕ) (from end : ℕ) : Type 0 where
  pub inside : end ≤ length l
  pub is : part l from end ≡ code t

-- what holds of each type that keeps the rules and whose code stands there, at small widths
abbrev pub EachType : List ℕ → ℕ → ℕ → List ℕ → (Term → Type 0) → Type 0
EachType l from end ws P = (t : Term) → TermStands t l from end → TypeOf (length ws) t → Small ws → P t

-- ---- what a node does: 0 a number, 1 a port, 2 log, 3 floor, 4 ceil, 5 plus, 6 minus, 7 the greater

-- a number, or the width of an unknown
unfoldable pub leaf_of : List ℕ → ℕ → Exact
leaf_of ws k = elim (eqb (k % 8) 0) [ true ↦ whole_of (k / 8) 0 | false ↦ whole_of (get_or ws (k / 8) 0) 0 ]

-- a log keeps its argument exact; the others round
unfoldable pub unary_of : ℕ → Exact → Exact
unary_of op x = elim (eqb op 2) [ true ↦ log_of (width_of x) | false ↦ elim (eqb op 3) [ true ↦ floor_of x | false ↦ ceil_of x ] ]

-- plus, minus, or the greater of two
unfoldable pub binary_of : ℕ → Exact → Exact → Exact
binary_of op x y = elim (eqb op 5) [ true ↦ plus_of x y | false ↦ elim (eqb op 6) [ true ↦ minus_of x y | false ↦ greater_of x y ] ]

-- the last value gives way to another
unfoldable pub on_last : (Exact → Exact) → List Exact → List Exact
on_last f [] = []
on_last f (x ∷ r) = f x ∷ r

-- the last two values give way to one
unfoldable pub on_last_two : (Exact → Exact → Exact) → List Exact → List Exact
on_last_two f [] = []
on_last_two f (y ∷ []) = []
on_last_two f (y ∷ (x ∷ r)) = f x y ∷ r

-- what a node does to the values that wait, the last one first
unfoldable pub turn : List ℕ → ℕ → List Exact → List Exact
turn ws k st =
    elim (ltb (k % 8) 2) [
      | true ↦ leaf_of ws k ∷ st
      | false ↦ elim (ltb (k % 8) 5) [ true ↦ on_last (unary_of (k % 8)) st | false ↦ on_last_two (binary_of (k % 8)) st ]
    ]

-- all nodes of a code in turn
unfoldable pub walk : List ℕ → List ℕ → List Exact → List Exact
walk ws [] st = st
walk ws (k ∷ ks) st = walk ws ks (turn ws k st)

-- ---- no overflow

-- the node k finds what it needs among the values that wait, and its value has a place
pub data Ready (ws : List ℕ) (k : ℕ) (st : List Exact) : Type 0 where
  leaf : k % 8 < 2 → (k % 8 ≡ 1 → k / 8 < length ws) → length st < limits.typeWords → Ready ws k st
  unary : (x : Exact) (r : List Exact) → st ≡ x ∷ r → 2 ≤ k % 8 → k % 8 < 5 → Space x → Ready ws k st
  binary : (x y : Exact) (r : List Exact) → st ≡ y ∷ (x ∷ r) → 5 ≤ k % 8 → Room x y → Ready ws k st

-- ---- the same as tests, and the value of any code

-- a value waits, and floor and ceil take it
unfoldable pub last_has_space : List Exact → Bool
last_has_space [] = false
last_has_space (x ∷ r) = has_space x

-- two values wait, and any node can join them
unfoldable pub last_two_have_room : List Exact → Bool
last_two_have_room [] = false
last_two_have_room (y ∷ []) = false
last_two_have_room (y ∷ (x ∷ r)) = has_room x y

-- `Ready` as a test
unfoldable pub is_ready : List ℕ → ℕ → List Exact → Bool
is_ready ws k st =
    elim (ltb (k % 8) 2) [
      | true ↦ ltb (length st) limits.typeWords && (eqb (k % 8) 0 || ltb (k / 8) (length ws))
      | false ↦ elim (ltb (k % 8) 5) [ true ↦ last_has_space st | false ↦ last_two_have_room st ]
    ]

-- the value that waits alone, where floor takes it; else 0
unfoldable pub alone : List Exact → Exact
alone [] = whole_of 0 0
alone (x ∷ []) = elim (has_space x) [ true ↦ x | false ↦ whole_of 0 0 ]
alone (y ∷ (x ∷ r)) = whole_of 0 0

-- the value of any code after the values that wait: 0 from a node on that is not ready
unfoldable pub value_from : List ℕ → List ℕ → List Exact → Exact
value_from ws [] st = alone st
value_from ws (k ∷ ks) st = elim (is_ready ws k st) [ true ↦ value_from ws ks (turn ws k st) | false ↦ whole_of 0 0 ]

-- the value of any code
abbrev pub value_of : List ℕ → List ℕ → Exact
value_of ws ks = value_from ws ks []

-- ---- the nodes and the values as the code has them

abbrev pub unary_kind : OnOne → ℕ
unary_kind Log = 2
unary_kind Floor = 3
unary_kind Ceil = 4

abbrev pub binary_kind : OnTwo → ℕ
binary_kind Plus = 5
binary_kind Minus = 6
binary_kind Greater = 7

-- the node that a word is
abbrev pub Means : Node → ℕ → Type 0
Means (Number n) k = (k % 8 ≡ 0) × (k / 8 ≡ n)
Means (Port i) k = (k % 8 ≡ 1) × (k / 8 ≡ i)
Means (One op) k = k % 8 ≡ unary_kind op
Means (Two op) k = k % 8 ≡ binary_kind op

-- the first n values, the last one first
unfoldable pub waiting : List Exact → ℕ → List Exact
waiting l zero = []
waiting l (suc n) = get_or l n (record { up = 0; down = 0; a = 0; b = 0 }) ∷ waiting l n

-- what waits before and after, and whether it was done
abbrev pub Pushed : List Exact → Exact → List Exact → Option (Unit {0}) → Type 0
Pushed st x r None = length st ≡ limits.typeWords
Pushed st x r (Some u) = (length st < limits.typeWords) × (r ≡ x ∷ st)

abbrev pub Popped : List Exact → List Exact → Option Exact → Type 0
Popped st r None = st ≡ []
Popped st r (Some x) = st ≡ x ∷ r

abbrev pub TurnedLast : (Exact → Exact) → List Exact → List Exact → Option (Unit {0}) → Type 0
TurnedLast f st r None = last_has_space st ≡ false
TurnedLast f st r (Some u) = (last_has_space st ≡ true) × (r ≡ on_last f st)

abbrev pub TurnedLastTwo : (Exact → Exact → Exact) → List Exact → List Exact → Option (Unit {0}) → Type 0
TurnedLastTwo f st r None = last_two_have_room st ≡ false
TurnedLastTwo f st r (Some u) = (last_two_have_room st ≡ true) × (r ≡ on_last_two f st)

abbrev pub Turned : List ℕ → ℕ → List Exact → List Exact → Option (Unit {0}) → Type 0
Turned ws k st r None = is_ready ws k st ≡ false
Turned ws k st r (Some u) = (is_ready ws k st ≡ true) × (r ≡ turn ws k st)
