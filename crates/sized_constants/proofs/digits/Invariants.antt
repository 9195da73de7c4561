-- `sized_constants::digits` meets its contract: the digits that are left, after the value so far, give what all give. Assumes nothing.
use Rattle.std.proofs.Common.{◌≡◌, ℕ, drop}
use Rattle.language.specs.Words.{span, digit_in, value_in_base}
use Rattle.sized_constants.specs.Constant.{amount_of}
use Rattle.sized_constants.proofs.digits.Given as goal

abbrev pub invariant-loop-i : goal.invariant-loop-i
invariant-loop-i l = (n : ℕ) × (l.v ≡ amount_of n) × (value_in_base l.base n (span (digit_in l.base) (drop l.i l.text)) ≡ value_in_base l.base 0 (span (digit_in l.base) (drop l.from l.text)))
