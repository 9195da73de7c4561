-- The numbers of the operators, as the tape, the settled items and the plan have them (docs/PLAN.md): the order of `language`'s Unary and Binary. Assumes nothing: these are definitions.
use Rattle.std.specs.Prelude.{ℕ}
use Rattle.language.specs.declared.Unary.{Unary}
use Rattle.language.specs.declared.Unary.TheVariants.{Invert, Plus, Not, All, NotAll, Any, NotAny, Odd, NotOdd}
use Rattle.language.specs.declared.Binary.{Binary}
use Rattle.language.specs.declared.Binary.TheVariants.{Multiply, Divide, Remainder, Add, Subtract, Left, Right, Less, AtMost, Greater, AtLeast, Equal, Unequal, And, NotAnd, Xor, NotXor, Or, NotOr, Both, Either}

-- the number of an operator before its operand
abbrev pub unary_number : Unary → ℕ
unary_number Invert = 0
unary_number Plus = 1
unary_number Not = 2
unary_number All = 3
unary_number NotAll = 4
unary_number Any = 5
unary_number NotAny = 6
unary_number Odd = 7
unary_number NotOdd = 8

-- and that between two
abbrev pub binary_number : Binary → ℕ
binary_number Multiply = 0
binary_number Divide = 1
binary_number Remainder = 2
binary_number Add = 3
binary_number Subtract = 4
binary_number Left = 5
binary_number Right = 6
binary_number Less = 7
binary_number AtMost = 8
binary_number Greater = 9
binary_number AtLeast = 10
binary_number Equal = 11
binary_number Unequal = 12
binary_number And = 13
binary_number NotAnd = 14
binary_number Xor = 15
binary_number NotXor = 16
binary_number Or = 17
binary_number NotOr = 18
binary_number Both = 19
binary_number Either = 20
