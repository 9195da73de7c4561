-- `number` meets its contract. Assumes nothing.
use mathlib.Core.Path.{ap, ◌∙◌}
use Prim.Native.Nat.{◌≤◌}
use native.Mathlib.Omega.{arith}
use lib.ListN.{length}
use Rattle.std.proofs.lemmas.Fmt.{length-decimal-le}
use Rattle.figures.proofs.Bytes.{named}
use Rattle.figures.proofs.Decimals.{decimal_is}
use Rattle.figures.proofs.numbers.number.Goals as goal

-- the bytes that are handed on
few : (c : goal.After-as_bytes) → length c.as_bytes.result.now ≤ 20
few c = let e = ap length (c.as_bytes.ensures.value ∙ c.format.ensures.text) in let s = length-decimal-le 20 c.args.n (omega arith) (omega (arith, c.ranges.n.fits)) c.ranges.n.fits in omega arith

pub text-requires : goal.text-requires
text-requires c = omega (arith, few c, c.requires)

pub returns : goal.returns
returns c = named (c.as_bytes.ensures.value ∙ c.format.ensures.text ∙ decimal_is _ c.ranges.n.fits) (omega arith) c.text.ensures
