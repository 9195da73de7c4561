-- `sized_constants::base` meets its contract. Assumes nothing.
use native.Mathlib.Omega.{arith}
use mathlib.Core.Path.{sym}
use mathlib.Core.Logic.{⊎_elim}
use Rattle.language.specs.Words.{base_of, one_of, some_of, bytes}
use Rattle.sized_constants.proofs.Sized.{base_none}
use Rattle.sized_constants.proofs.base.Goals as goal

pub returns-in-100 : goal.returns-in-100
unfolding base_of one_of some_of bytes
returns-in-100 c = ⊎_elim (λ e. rw e) (λ e. rw e) c.in-100.is

pub returns-in-111 : goal.returns-in-111
unfolding base_of one_of some_of bytes
returns-in-111 c = ⊎_elim (λ e. rw e) (λ e. rw e) c.in-111.is

pub returns-in-104 : goal.returns-in-104
unfolding base_of one_of some_of bytes
returns-in-104 c = ⊎_elim (λ e. rw e) (λ e. rw e) c.in-104.is

pub returns-in-98 : goal.returns-in-98
unfolding base_of one_of some_of bytes
returns-in-98 c = ⊎_elim (λ e. rw e) (λ e. rw e) c.in-98.is

pub returns-in_default : goal.returns-in_default
returns-in_default c = sym (base_none c.args.b (grind arith) (grind arith) (grind arith) (grind arith) (grind arith) (grind arith) (grind arith) (grind arith))
