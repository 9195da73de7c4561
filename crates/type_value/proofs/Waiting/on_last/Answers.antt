-- `type_value::Waiting::on_last` meets its contract. Assumes nothing.
use mathlib.Core.Path.{sym, ◌∙◌}
use mathlib.Core.List.{[]}
use native.Mathlib.Omega.{arith}
use Rattle.exact_room.proofs.Fitting.{space_of_test}
use Rattle.type_value.specs.Walk.{unary_of, unary_kind}
use Rattle.type_value.proofs.Cells.{how_many}
use Rattle.type_value.proofs.Tested.{one_none, one_wide, one_done}
use Rattle.type_value.proofs.Waiting.on_last.Goals as goal

pub returns-in_err-x : goal.returns-in_err-x
returns-in_err-x c = rw c.from_residual.ensures (one_none _ c.in_err-x.ensures)

pub returns-then-not-has_space : goal.returns-then-not-has_space
returns-then-not-has_space c = one_wide (unary_of (unary_kind c.args.op)) _ _ [] _ c.in_ok-x.x c.in_ok-x.ensures (sym c.has_space.ensures ∙ c.if-not-has_space.true)

pub unary-requires : goal.unary-requires
unary-requires c = space_of_test _ (sym c.has_space.ensures ∙ c.if-not-has_space.false)

pub returns : goal.returns
returns c =
    one_done (unary_of (unary_kind c.args.op)) _ _ _ c.in_ok-x.x c.unary.result c.in_ok-x.ensures (sym c.has_space.ensures ∙ c.if-not-has_space.false)
    (omega (arith, how_many c.args.self.now.values c.args.self.now.n, c.args.self.now.few)) c.unary.ensures c.push.result c.push.ensures
