-- The items of a rule's code and their numbers (docs/PLAN.md). Assumes nothing: these are definitions.
use Rattle.std.specs.Prelude.{Bool, true, false, List, [], ◌∷◌, ℕ, ◌+◌, eqb, get_or}
use Rattle.language.specs.declared.Unary.TheVariants.{Invert, Plus, Not, All, NotAll, Any, NotAny, Odd, NotOdd}
use Rattle.language.specs.declared.Binary.TheVariants.{Multiply, Divide, Remainder, Add, Subtract, Left, Right, Less, AtMost, Greater, AtLeast, Equal, Unequal, And, NotAnd, Xor, NotXor, Or, NotOr, Both, Either}
pub use Rattle.value.specs.Numbers.{unary_number, binary_number}
use Rattle.plan.specs.declared.Item.{Item}
use Rattle.plan.specs.declared.Item.TheVariants.{Const, Port, Let, Cell, Range, Copies, Beside, Before, Between, Choice, Arm, Keep, Assign, Write, Bad}

-- ---- from an item to its numbers

-- each item is four numbers
abbrev four : ℕ → ℕ → ℕ → ℕ → List ℕ
four o a b c = o ∷ a ∷ b ∷ c ∷ []

-- no number is that of `Bad`: 15 is free
abbrev pub encode : Item → List ℕ
encode (Const w lo hi) = four 0 w lo hi
encode (Port i) = four 1 i 0 0
encode (Let k) = four 2 k 0 0
encode (Cell m f n) = four 3 m f n
encode (Range i j) = four 4 i j 0
encode (Copies n w) = four 5 n w 0
encode (Beside w) = four 6 w 0 0
encode (Before u w) = four 7 (unary_number u) w 0
encode (Between o m n) = four 8 (binary_number o) m n
encode Choice = four 9 0 0 0
encode (Arm n k) = four 10 n k 0
encode (Keep k w) = four 11 k w 0
encode (Assign p) = four 12 p 0 0
encode (Write m f n) = four 13 m f n
encode Bad = four 14 0 0 0

-- ---- from four numbers to an item; what is no item is `Bad`

-- an operand that is not used is 0
abbrev pub unused : ℕ → Item → Item
unused n i = elim (eqb n 0) [ true ↦ i | false ↦ Bad ]

-- the items of the operators before their operand, in the order of their numbers
abbrev pub unary_items : ℕ → List Item
unary_items w = Before Invert w ∷ Before Plus w ∷ Before Not w ∷ Before All w ∷ Before NotAll w ∷ Before Any w ∷ Before NotAny w ∷ Before Odd w ∷ Before NotOdd w ∷ []

-- the item of such an operator, by its number
unfoldable pub unary_item : ℕ → ℕ → Item
unary_item a w = get_or (unary_items w) a Bad

-- the items of the operators between their operands, in the order of their numbers
abbrev pub binary_items : ℕ → ℕ → List Item
binary_items m n =
    Between Multiply m n ∷ Between Divide m n ∷ Between Remainder m n ∷ Between Add m n ∷ Between Subtract m n ∷ Between Left m n ∷ Between Right m n
    ∷ Between Less m n ∷ Between AtMost m n ∷ Between Greater m n ∷ Between AtLeast m n ∷ Between Equal m n ∷ Between Unequal m n
    ∷ Between And m n ∷ Between NotAnd m n ∷ Between Xor m n ∷ Between NotXor m n ∷ Between Or m n ∷ Between NotOr m n ∷ Between Both m n ∷ Between Either m n ∷ []

-- the item of such an operator, by its number
unfoldable pub binary_item : ℕ → ℕ → ℕ → Item
binary_item a m n = get_or (binary_items m n) a Bad

-- the items of three operands, in the order of their first number
abbrev pub items_of : ℕ → ℕ → ℕ → List Item
items_of a b c =
    Const a b c ∷ unused b (unused c (Port a)) ∷ unused b (unused c (Let a)) ∷ Cell a b c ∷ unused c (Range a b) ∷ unused c (Copies a b) ∷ unused b (unused c (Beside a))
    ∷ unused c (unary_item a b) ∷ binary_item a b c ∷ unused a (unused b (unused c Choice)) ∷ unused c (Arm a b) ∷ unused c (Keep a b) ∷ unused b (unused c (Assign a)) ∷ Write a b c ∷ []

-- the item that four numbers are
unfoldable pub decode : ℕ → ℕ → ℕ → ℕ → Item
decode o a b c = get_or (items_of a b c) o Bad

-- all items of a list of numbers; one to three left over are no item
unfoldable pub decode_all : List ℕ → List Item
decode_all [] = []
decode_all (o ∷ []) = Bad ∷ []
decode_all (o ∷ a ∷ []) = Bad ∷ []
decode_all (o ∷ a ∷ b ∷ []) = Bad ∷ []
decode_all (o ∷ a ∷ b ∷ c ∷ r) = decode o a b c ∷ decode_all r

-- the item whose four numbers begin at a place
unfoldable pub item_at : List ℕ → ℕ → Item
item_at p i = decode (get_or p i 0) (get_or p (i + 1) 0) (get_or p (i + 2) 0) (get_or p (i + 3) 0)

-- how many of the values that wait an item takes
abbrev pub takes_of : Item → ℕ
takes_of (Const w lo hi) = 0
takes_of (Port i) = 0
takes_of (Let k) = 0
takes_of (Cell m f n) = 1
takes_of (Range i j) = 1
takes_of (Copies n w) = 1
takes_of (Beside w) = 2
takes_of (Before u w) = 1
takes_of (Between o m n) = 2
takes_of Choice = 3
takes_of (Arm n k) = 2
takes_of (Keep k w) = 1
takes_of (Assign p) = 1
takes_of (Write m f n) = 2
takes_of Bad = 0

-- an item that leaves no value: it keeps, assigns or writes one
abbrev pub acts_of : Item → Bool
acts_of (Const w lo hi) = false
acts_of (Port i) = false
acts_of (Let k) = false
acts_of (Cell m f n) = false
acts_of (Range i j) = false
acts_of (Copies n w) = false
acts_of (Beside w) = false
acts_of (Before u w) = false
acts_of (Between o m n) = false
acts_of Choice = false
acts_of (Arm n k) = false
acts_of (Keep k w) = true
acts_of (Assign p) = true
acts_of (Write m f n) = true
acts_of Bad = false
