-- The classes of bytes that a span runs over. Assumes nothing: these are definitions.
use Rattle.std.specs.Prelude.{Bool, not, ℕ, eqb}
use Rattle.language.specs.Words.{name_byte, digit_in}
use Rattle.spans.specs.declared.Class.{Class}
use Rattle.spans.specs.declared.Class.TheVariants.{Line, Name, Digits}

-- the classes of bytes: what stands in a line, what stands in a name, the digits of a base
unfoldable pub test_of : Class → ℕ → Bool
test_of Line b = not (eqb b 10)
test_of Name b = name_byte b
test_of (Digits base) b = digit_in base b
