-- `type_value::Waiting::on_last_two` meets its contract. Assumes nothing.
use mathlib.Core.Path.{sym, ◌∙◌}
use mathlib.Core.List.{[]}
use native.Mathlib.Omega.{arith}
use Rattle.exact_room.proofs.Fitting.{room_of_test}
use Rattle.type_value.specs.Walk.{binary_of, binary_kind}
use Rattle.type_value.proofs.Cells.{how_many}
use Rattle.type_value.proofs.Tested.{two_none, two_one, two_wide, two_done}
use Rattle.type_value.proofs.Waiting.on_last_two.Goals as goal

pub returns-in_err-y : goal.returns-in_err-y
returns-in_err-y c = rw c.from_residual.ensures (two_none _ c.in_err-y.ensures)

pub returns-in_err-x : goal.returns-in_err-x
returns-in_err-x c = rw c.from_residual-in_err-x.ensures (two_one _ _ _ c.in_ok-y.ensures c.in_err-x.ensures)

pub returns-then-not-has_room : goal.returns-then-not-has_room
returns-then-not-has_room c = two_wide (binary_of (binary_kind c.args.op)) _ _ _ [] c.in_ok-x.x c.in_ok-y.y c.in_ok-x.x c.in_ok-y.ensures c.in_ok-x.ensures (sym c.has_room.ensures ∙ c.if-not-has_room.true)

pub binary-requires : goal.binary-requires
binary-requires c = room_of_test _ _ (sym c.has_room.ensures ∙ c.if-not-has_room.false)

pub returns : goal.returns
returns c =
    two_done (binary_of (binary_kind c.args.op)) _ _ _ _ c.in_ok-x.x c.in_ok-y.y c.binary.result c.in_ok-y.ensures c.in_ok-x.ensures (sym c.has_room.ensures ∙ c.if-not-has_room.false)
    (omega (arith, how_many c.args.self.now.values c.args.self.now.n, c.args.self.now.few)) c.binary.ensures c.push.result c.push.ensures
