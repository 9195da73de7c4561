-- `exact::log_up` meets its contract: by the leading zeros of the quotient. Assumes nothing.
use native.Mathlib.Omega.{arith}
use Rattle.exact.proofs.Logs.{up_bits}
use Rattle.exact.proofs.log_up.Goals as goal

pub returns : goal.returns
returns c = let e = up_bits 64 c.args.a c.args.b c.ranges.a.fits in (omega arith, omega arith)
