-- `typing_vectors::judge::unary` meets its contract. Assumes nothing.
use native.Mathlib.Omega.{arith}
use Rattle.type_value.specs.Terms.{log}
use Rattle.typing_vectors.proofs.Judging.{log_judged, floor_or_ceil}
use Rattle.typing_vectors.proofs.judge.unary.Goals as goal

pub returns-in-2 : goal.returns-in-2
returns-in-2 c = λ n t ks j. (log t, rw c.in-2.is (log_judged n t c.args.m ks j c.if-m-le1.true))

pub returns-in_default : goal.returns-in_default
returns-in_default c = λ n t ks j. floor_or_ceil n t c.args.m c.args.op ks j c.requires.0 c.requires.1 (omega arith) c.if-m-le5.true
