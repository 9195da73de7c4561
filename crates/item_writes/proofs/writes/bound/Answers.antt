-- `item_writes::writes::bound` meets its contract. Assumes nothing.
use mathlib.Core.Path.{ap, ◌∙◌}
use native.Mathlib.Omega.{arith}
use Rattle.sized_constants.specs.Constant.{amount_of}
use Rattle.row09_bindings.specs.Lines.{lines_on}
use Rattle.item_writes.proofs.Writing.{small_amount}
use Rattle.item_writes.proofs.writes.bound.Goals as goal

pub returns : goal.returns
returns c =
    let t = c in
    let l = lines_on t.args.given.bound.text.now t.args.given.bound.table.now t.args.given.bound.lines.widths t.args.given.bound.lines.values in
    c.amount.ensures _ (small_amount c.from.result (omega (arith, c.from.ensures, c.value-x.type_inv)) ∙ ap amount_of (c.from.ensures ∙ c.value-x.ensures))
