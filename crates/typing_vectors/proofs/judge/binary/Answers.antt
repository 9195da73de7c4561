-- `typing_vectors::judge::binary` meets its contract. Assumes nothing.
use native.Mathlib.Omega.{arith}
use Rattle.type_value.specs.Terms.{minus}
use Rattle.typing_vectors.proofs.Judging.{minus_judged, plus_or_greater}
use Rattle.typing_vectors.proofs.judge.binary.Goals as goal

pub returns-in-6-2 : goal.returns-in-6-2
returns-in-6-2 c = λ n s t js ks x y. (minus s t, rw c.in-6.is (minus_judged n s t c.args.m c.args.k js ks x y c.if-k-eq1.false))

pub returns-in_default : goal.returns-in_default
returns-in_default c = λ n s t js ks x y. plus_or_greater n s t c.args.m c.args.k c.args.op js ks x y c.requires.0 c.requires.1 (omega arith)
