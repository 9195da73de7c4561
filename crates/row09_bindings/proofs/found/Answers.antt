-- `row09_bindings::found` meets its contract: the lines passed do not have the name. Assumes nothing.
use Rattle.std.proofs.Common.{arith, sym, ap₂, ◌∙◌}
use Rattle.language.specs.Text.{same}
use Rattle.placed.specs.Placed.{name_from}
use Rattle.row09_bindings.proofs.Indices.{found_here, found_next, found_none}
use Rattle.row09_bindings.proofs.found.Goals as goal

pub returns-then-same_bytes : goal.returns-then-same_bytes
returns-then-same_bytes c =
    let e = found_here c.args.bound.text.now c.args.bound.table.now c.args.to c.loop-i.i (name_from c.args.text.now c.args.place) c.loop-i-test.true
    (ap₂ same (sym c.line_name.ensures) (sym c.name-called.ensures) ∙ sym c.same_bytes.ensures ∙ c.if-same_bytes.true) in
    omega (arith, e, c.loop-i.invariant)

pub loop-i-preserved : goal.loop-i-preserved
loop-i-preserved c =
    let e = found_next c.args.bound.text.now c.args.bound.table.now c.args.to c.loop-i.i (name_from c.args.text.now c.args.place) c.loop-i-test.true
    (ap₂ same (sym c.line_name.ensures) (sym c.name-called.ensures) ∙ sym c.same_bytes.ensures ∙ c.if-same_bytes.false) in
    omega (arith, e, c.loop-i.invariant)

pub returns : goal.returns
returns c =
    let e = found_none c.args.bound.text.now c.args.bound.table.now c.args.to c.loop-i.i (name_from c.args.text.now c.args.place) (omega arith) in
    omega (arith, e, c.loop-i.invariant)
