-- `value::operators::binary` meets its contract: each arm is told the operator. Assumes nothing.
use Rattle.std.proofs.Common.{◌≡◌, ℕ, ◌+◌, ◌*◌, ◌^◌, ◌<◌, ◌≤◌, max, sym, ap, ◌∙◌, subst, ap₂, arith}
use lib.Bits.{bit_and, bit_or, bit_xor, or_lt, xor_lt}
use Rattle.language.specs.Values.{complement, binary_width, binary_value, and_of, or_of, xor_of}
use Rattle.language.specs.declared.Binary.{Binary}
use Rattle.language.specs.declared.Binary.TheVariants.{Multiply}
use Rattle.bits.specs.Fits.{BinaryFits}
use Rattle.bits.proofs.Laws.{wider_lt, product}
use Rattle.bits.proofs.Digits.{and_bits, or_bits, xor_bits}
use Rattle.value.proofs.operators.binary.Goals as goal

told : (m n a b : ℕ) {op o : Binary} {r : ℕ} → op ≡ o → r ≡ binary_value o m n a b → r ≡ binary_value op m n a b
told m n a b e h = h ∙ sym (ap (λ (x : Binary). binary_value x m n a b) e)

-- the wider width w holds both operands
module _ {op : Binary} {m n a b : ℕ} (p : BinaryFits op m n a b) (w : ℕ) (e : w ≡ max m n) where
  wide : w ≤ 64
  wide = omega arith

  first : a < 2 ^ w
  first = wider_lt m w (omega arith) p.first

  second : b < 2 ^ w
  second = wider_lt n w (omega arith) p.second

  orable : (w ≤ 64) × (bit_or a b < 2 ^ w)
  orable = (wide, or_lt w a b first second)

  xorable : (w ≤ 64) × (bit_xor a b < 2 ^ w)
  xorable = (wide, xor_lt w a b first second)

  anded : bit_and a b ≡ and_of (max m n) a b
  anded = subst (λ (x : ℕ). bit_and a b ≡ and_of x a b) e (and_bits w a b first second)

  xored : bit_xor a b ≡ xor_of (max m n) a b
  xored = subst (λ (x : ℕ). bit_xor a b ≡ xor_of x a b) e (xor_bits w a b first second)

  ored : bit_or a b ≡ or_of (max m n) a b
  ored = subst (λ (x : ℕ). bit_or a b ≡ or_of x a b) e (or_bits w a b first second)

fitting : {op : Binary} {m n a b : ℕ} → BinaryFits op m n a b → op ≡ Multiply → a * b < 2 ^ 64
unfolding binary_width
fitting {op} {m} {n} {a} {b} p e = wider_lt (m + n) 64 (subst (λ (o : Binary). binary_width o m n ≤ 64) e p.whole) (product m n p.first p.second)

pub overflow_mul-result : goal.overflow_mul-result
overflow_mul-result c = record { fits = fitting c.requires c.in-Multiply.is }

pub subtract-requires : goal.subtract-requires
subtract-requires c = (wide c.requires c.max-w.result c.max-w.ensures, second c.requires c.max-w.result c.max-w.ensures)

pub complement-requires-in-NotXor : goal.complement-requires-in-NotXor
complement-requires-in-NotXor c = xorable c.requires c.max-w.result c.max-w.ensures

pub complement-requires-in-NotOr : goal.complement-requires-in-NotOr
complement-requires-in-NotOr c = orable c.requires c.max-w.result c.max-w.ensures

pub returns-in-And : goal.returns-in-And
unfolding binary_value
returns-in-And c = told c.args.m c.args.n c.args.a c.args.b c.in-And.is (anded c.requires c.max-w.result c.max-w.ensures)

pub returns-in-NotAnd : goal.returns-in-NotAnd
unfolding binary_value
returns-in-NotAnd c = told c.args.m c.args.n c.args.a c.args.b c.in-NotAnd.is (c.complement.ensures ∙ ap₂ complement c.max-w.ensures (anded c.requires c.max-w.result c.max-w.ensures))

pub returns-in-Xor : goal.returns-in-Xor
unfolding binary_value
returns-in-Xor c = told c.args.m c.args.n c.args.a c.args.b c.in-Xor.is (xored c.requires c.max-w.result c.max-w.ensures)

pub returns-in-NotXor : goal.returns-in-NotXor
unfolding binary_value
returns-in-NotXor c = told c.args.m c.args.n c.args.a c.args.b c.in-NotXor.is (c.complement-in-NotXor.ensures ∙ ap₂ complement c.max-w.ensures (xored c.requires c.max-w.result c.max-w.ensures))

pub returns-in-Or : goal.returns-in-Or
unfolding binary_value
returns-in-Or c = told c.args.m c.args.n c.args.a c.args.b c.in-Or.is (ored c.requires c.max-w.result c.max-w.ensures)

pub returns-in-NotOr : goal.returns-in-NotOr
unfolding binary_value
returns-in-NotOr c = told c.args.m c.args.n c.args.a c.args.b c.in-NotOr.is (c.complement-in-NotOr.ensures ∙ ap₂ complement c.max-w.ensures (ored c.requires c.max-w.result c.max-w.ensures))
