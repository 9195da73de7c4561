-- The value of a sized constant, whose `'` stands at a place: a letter for the base, then all digits of that base. Assumes nothing: these are definitions.
use Rattle.std.specs.Prelude.{true, false, List, ℕ, ◌+◌, ◌^◌, ltb, drop, get_or}
use Rattle.language.specs.Words.{base_of, digit_in, span, value_in_base}
use Rattle.std.specs.Prelude.{Option, Some, None}

-- the greatest base
abbrev pub most_base : ℕ
most_base = 16

unfoldable pub constant_at : List ℕ → ℕ → ℕ
constant_at text at = value_in_base (base_of (get_or text (at + 1) 0)) 0 (span (digit_in (base_of (get_or text (at + 1) 0))) (drop (at + 2) text))

unfoldable pub amount_of : ℕ → Option ℕ
amount_of n = elim (ltb n (2 ^ 64)) [ true ↦ Some n | false ↦ None ]
