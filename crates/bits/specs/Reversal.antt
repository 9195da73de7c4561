-- The bits of a number the other way round. Assumes nothing: this is a definition.
use Rattle.std.specs.Prelude.{ℕ, ◌-◌}
use Rattle.language.specs.Values.{bit_of, number_of}

-- the w low bits of a, the lowest first: bit k is a's bit w - 1 - k
unfoldable pub reversed_of : ℕ → ℕ → ℕ
reversed_of w a = number_of w (λ k. bit_of a (w - 1 - k))
