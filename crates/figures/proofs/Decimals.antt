-- The digits that a number is written with are those of document 01. Assumes nothing.
use mathlib.Core.Path.{◌≡◌, sym}
use Prim.Native.Nat.{ℕ, suc, ◌^◌, ◌<◌}
use native.Mathlib.Omega.{arith}
use borrow.Author.Tests.{lt-ltb, le-ltb}
use Rattle.std.specs.Fmt as Fmt
use Rattle.std.proofs.lemmas.Fmt.{AppendsLastDigit, decimal_from_appends, length-decimal-le_succ}
use Rattle.language.specs.Worked.{figures, decimal}

appends : AppendsLastDigit figures
unfolding figures
appends = record { one = λ k n h. simp (figures, lt-ltb n 10 h); more = λ k n h. simp (figures, le-ltb n 10 h) }

pub decimal_is : (n : ℕ) → n < 2 ^ 64 → Fmt.decimal n ≡ decimal n
unfolding decimal
decimal_is n h = sym (decimal_from_appends figures appends (suc n) n h (omega (arith, length-decimal-le_succ n h)))
