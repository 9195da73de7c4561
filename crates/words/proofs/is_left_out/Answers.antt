-- `words::is_left_out` meets its contract. Assumes nothing.
use native.Mathlib.Omega.{arith}
use mathlib.Core.Path.{sym}
use Rattle.spelling.proofs.Laws.{within, under, above}
use Rattle.words.specs.Found.{left_kind}
use Rattle.words.proofs.is_left_out.Goals as goal

pub returns-in-60-to-64 : goal.returns-in-60-to-64
unfolding left_kind
returns-in-60-to-64 c = sym (within 60 64 c.args.kind (omega arith) (omega arith))

pub returns-in_default : goal.returns-in_default
unfolding left_kind
returns-in_default c = sym (under 60 64 c.args.kind (omega arith))

pub returns-in_default-2 : goal.returns-in_default-2
unfolding left_kind
returns-in_default-2 c = sym (above 60 64 c.args.kind (omega arith))
