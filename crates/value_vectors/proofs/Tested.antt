-- What a test that was passed says. Assumes nothing.
use mathlib.Core.Path.{◌≡◌, sym, ◌∙◌}
use mathlib.Core.Bool.{Bool, true}
use Prim.Native.Nat.{ℕ, ◌-◌, ◌^◌, ◌≤◌, ◌<◌}
use native.Mathlib.Omega.{arith}
use lib.Dec.{ltb}
use borrow.Author.Tests.{ltb-true}
use Rattle.language.specs.Values.{beside_of}
use Rattle.ranges.proofs.Fits.{beside_within}

pub passed : (w a : ℕ) (t : Bool) → t ≡ ltb a (2 ^ w) → t ≡ true → a < 2 ^ w
passed w a t e n = ltb-true a (2 ^ w) (sym e ∙ n)

-- two numbers beside each other, of 64 bits together
pub beside_tested : (m n a b : ℕ) (s t : Bool) → m ≤ 64 → n ≤ 64 - m → s ≡ ltb a (2 ^ m) → s ≡ true → t ≡ ltb b (2 ^ n) → t ≡ true → beside_of n a b < 2 ^ 64
beside_tested m n a b s t h l e p f q = beside_within 64 m n a b (omega arith) (passed m a s e p) (passed n b t f q)
