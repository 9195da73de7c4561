-- What a caller shows: each operand is below 2 to the power of its width, and the result has at most 64 bits. Assumes nothing: these are definitions.
use Rattle.std.specs.Prelude.{ℕ, ◌*◌, ◌^◌, ◌≤◌, ◌<◌}
use Rattle.language.specs.Values.{binary_width}
use Rattle.language.specs.declared.Binary.{Binary}

pub record BinaryFits (op : Binary) (m n a b : ℕ) : Type 0 where
  pub left : m ≤ 64
  pub right : n ≤ 64
  pub first : a < 2 ^ m
  pub second : b < 2 ^ n
  pub whole : binary_width op m n ≤ 64

pub record UnaryFits (w a : ℕ) : Type 0 where
  pub wide : w ≤ 64
  pub holds : a < 2 ^ w

pub record CopiesFit (k w a : ℕ) : Type 0 where
  pub whole : k * w ≤ 64
  pub holds : a < 2 ^ w
