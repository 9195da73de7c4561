-- 01, "Values": the width and the value of each operator of 4.8.3, in plain arithmetic. Assumes nothing: these are definitions.
-- "Values are unsigned; a width of 0 holds only 0." Operands are below 2 to the power of their widths.
use Rattle.std.specs.Prelude.{Bool, true, false, not, ◌&&◌, ◌||◌, ℕ, zero, suc, ◌+◌, ◌-◌, ◌*◌, ◌/◌, ◌%◌, ◌^◌, min, max, eqb, leb, ltb}
use Rattle.language.specs.Types.{fewest}
use Rattle.language.specs.declared.Unary.{Unary}
use Rattle.language.specs.declared.Unary.TheVariants.{Invert, Plus, Not, All, NotAll, Any, NotAny, Odd, NotOdd}
use Rattle.language.specs.declared.Binary.{Binary}
use Rattle.language.specs.declared.Binary.TheVariants.{Multiply, Divide, Remainder, Add, Subtract, Left, Right, Less, AtMost, Greater, AtLeast, Equal, Unequal, And, NotAnd, Xor, NotXor, Or, NotOr, Both, Either}

-- bit k of a, and the number of w bits whose bit k is f k
unfoldable pub bit_of : ℕ → ℕ → ℕ
bit_of a k = a / 2 ^ k % 2

unfoldable pub number_of : ℕ → (ℕ → ℕ) → ℕ
number_of zero f = 0
number_of (suc n) f = f n * 2 ^ n + number_of n f

-- how many of the w low bits of a are ones
unfoldable pub ones_of : ℕ → ℕ → ℕ
ones_of zero a = 0
ones_of (suc n) a = bit_of a n + ones_of n a

-- "one bit .. nonzero is true"
unfoldable pub one_bit : Bool → ℕ
one_bit true = 1
one_bit false = 0

unfoldable pub truth : ℕ → Bool
truth a = not (eqb a 0)

-- all bits of a width the other way
unfoldable pub complement : ℕ → ℕ → ℕ
complement w a = 2 ^ w - 1 - a

-- "Unsized constant: the fewest bits that hold it, at least 1."
unfoldable pub plain_width : ℕ → ℕ
plain_width n = max 1 (fewest n)

-- ---- operators between two operands: the widths m and n, the values a and b

-- "`+ -`: wider operand's width .. `*`: widths added. `/ %`: left width .. Bitwise: wider width .. Shifts keep the left width .. Comparisons, `! && ||` and reductions: one bit"
unfoldable pub binary_width : Binary → ℕ → ℕ → ℕ
binary_width Multiply m n = m + n
binary_width Divide m n = m
binary_width Remainder m n = m
binary_width Add m n = max m n
binary_width Subtract m n = max m n
binary_width Left m n = m
binary_width Right m n = m
binary_width Less m n = 1
binary_width AtMost m n = 1
binary_width Greater m n = 1
binary_width AtLeast m n = 1
binary_width Equal m n = 1
binary_width Unequal m n = 1
binary_width And m n = max m n
binary_width NotAnd m n = max m n
binary_width Xor m n = max m n
binary_width NotXor m n = max m n
binary_width Or m n = max m n
binary_width NotOr m n = max m n
binary_width Both m n = 1
binary_width Either m n = 1

-- "wrapping on purpose at that width"
unfoldable pub add_of : ℕ → ℕ → ℕ → ℕ
add_of w a b = (a + b) % 2 ^ w

unfoldable pub subtract_of : ℕ → ℕ → ℕ → ℕ
subtract_of w a b = (2 ^ w + a - b) % 2 ^ w

-- "by zero, the quotient is all ones and the remainder is the left operand"
unfoldable pub divide_of : ℕ → ℕ → ℕ → ℕ
divide_of w a b = elim (eqb b 0) [ true ↦ 2 ^ w - 1 | false ↦ a / b ]

unfoldable pub remainder_of : ℕ → ℕ → ℕ
remainder_of a b = elim (eqb b 0) [ true ↦ a | false ↦ a % b ]

-- "an amount at or past it gives 0"
unfoldable pub left_of : ℕ → ℕ → ℕ → ℕ
left_of w a n = elim (leb w n) [ true ↦ 0 | false ↦ a * 2 ^ n % 2 ^ w ]

unfoldable pub right_of : ℕ → ℕ → ℕ → ℕ
right_of w a n = elim (leb w n) [ true ↦ 0 | false ↦ a / 2 ^ n ]

-- "Bitwise: wider width, missing bits 0"
unfoldable pub and_of : ℕ → ℕ → ℕ → ℕ
and_of w a b = number_of w (λ k. min (bit_of a k) (bit_of b k))

unfoldable pub or_of : ℕ → ℕ → ℕ → ℕ
or_of w a b = number_of w (λ k. max (bit_of a k) (bit_of b k))

unfoldable pub xor_of : ℕ → ℕ → ℕ → ℕ
xor_of w a b = number_of w (λ k. (bit_of a k + bit_of b k) % 2)

-- "`~& ~| ~^ ^~` complement in that width"
unfoldable pub binary_value : Binary → ℕ → ℕ → ℕ → ℕ → ℕ
binary_value Multiply m n a b = a * b
binary_value Divide m n a b = divide_of m a b
binary_value Remainder m n a b = remainder_of a b
binary_value Add m n a b = add_of (max m n) a b
binary_value Subtract m n a b = subtract_of (max m n) a b
binary_value Left m n a b = left_of m a b
binary_value Right m n a b = right_of m a b
binary_value Less m n a b = one_bit (ltb a b)
binary_value AtMost m n a b = one_bit (leb a b)
binary_value Greater m n a b = one_bit (ltb b a)
binary_value AtLeast m n a b = one_bit (leb b a)
binary_value Equal m n a b = one_bit (eqb a b)
binary_value Unequal m n a b = one_bit (not (eqb a b))
binary_value And m n a b = and_of (max m n) a b
binary_value NotAnd m n a b = complement (max m n) (and_of (max m n) a b)
binary_value Xor m n a b = xor_of (max m n) a b
binary_value NotXor m n a b = complement (max m n) (xor_of (max m n) a b)
binary_value Or m n a b = or_of (max m n) a b
binary_value NotOr m n a b = complement (max m n) (or_of (max m n) a b)
binary_value Both m n a b = one_bit (truth a && truth b)
binary_value Either m n a b = one_bit (truth a || truth b)

-- ---- operators before an operand: "Unary `~` and `+` keep the width."

unfoldable pub unary_width : Unary → ℕ → ℕ
unary_width Invert w = w
unary_width Plus w = w
unary_width Not w = 1
unary_width All w = 1
unary_width NotAll w = 1
unary_width Any w = 1
unary_width NotAny w = 1
unary_width Odd w = 1
unary_width NotOdd w = 1

-- "Reductions of width 0: `&` 1, `|` 0, `^` 0, and the negated ones the opposite."
unfoldable pub unary_value : Unary → ℕ → ℕ → ℕ
unary_value Invert w a = complement w a
unary_value Plus w a = a
unary_value Not w a = one_bit (not (truth a))
unary_value All w a = one_bit (eqb a (2 ^ w - 1))
unary_value NotAll w a = one_bit (not (eqb a (2 ^ w - 1)))
unary_value Any w a = one_bit (truth a)
unary_value NotAny w a = one_bit (not (truth a))
unary_value Odd w a = ones_of w a % 2
unary_value NotOdd w a = 1 - ones_of w a % 2

-- ---- the others

-- "`{a, b}`: a above b", where b has n bits
unfoldable pub beside_of : ℕ → ℕ → ℕ → ℕ
beside_of n a b = a * 2 ^ n + b

-- "Replication by 0 has width 0": k copies of a, which has w bits
unfoldable pub copies_of : ℕ → ℕ → ℕ → ℕ
copies_of zero w a = 0
copies_of (suc k) w a = copies_of k w a * 2 ^ w + a

-- "`[i:j]` takes bits i down to j, and with i less than j the same bits reversed"
unfoldable pub range_width : ℕ → ℕ → ℕ
range_width i j = max i j - min i j + 1

unfoldable pub range_of : ℕ → ℕ → ℕ → ℕ
range_of a i j = elim (leb j i) [ true ↦ a / 2 ^ j % 2 ^ range_width i j | false ↦ number_of (range_width i j) (λ k. bit_of a (j - k)) ]

-- "`case`, `if`, `?:`": the first where the condition is true, else the second
unfoldable pub chosen : ℕ → ℕ → ℕ → ℕ
chosen c a b = elim (truth c) [ true ↦ a | false ↦ b ]
