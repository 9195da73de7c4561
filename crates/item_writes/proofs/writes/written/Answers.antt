-- `item_writes::writes::written` meets its contract: each operation writes what it writes. Assumes nothing.
use mathlib.Core.Path.{refl, sym, ◌∙◌}
use native.Mathlib.Omega.{arith}
use Rattle.item_writes.specs.Walk.{around_of}
use Rattle.item_writes.specs.Tables.{state_of}
use Rattle.item_writes.proofs.Writing.{written_given, written_value, written_read, written_cell, written_write, written_assign, written_present, written_memory, written_signed}
use Rattle.item_writes.proofs.writes.written.Goals as goal

pub read-requires : goal.read-requires
read-requires c = (c.requires.3.lets, c.requires.0)

pub typed-requires : goal.typed-requires
typed-requires c =
    let pre = c.requires in
    (omega (arith, pre.3.types, pre.2), omega (arith, pre.3.nodes, pre.1), pre.3.ordered)

pub returns-in-14 : goal.returns-in-14
unfolding around_of
returns-in-14 c = λ out. let t = c in c.amount.ensures _ c.constant.ensures ∙ sym (written_given _ _ _ _ _ c.in-14.is)

pub returns-in-15 : goal.returns-in-15
unfolding around_of
returns-in-15 c = λ out. c.bound.ensures ∙ sym (written_value _ _ _ _ _ c.in-15.is)

pub returns-in-18 : goal.returns-in-18
unfolding state_of
returns-in-18 c =
    λ out. let t = c in c.read.ensures
    t.args.given.bound.text.now t.args.given.bound.table.now t.args.given.bound.lines
    (state_of t.args.given.text.now t.args.given.tape.now t.args.code.now t.args.starts.now out t.args.i t.args.far) refl refl ∙ sym
    (written_read _ _ _ _ _ c.in-18.is)

pub returns-in-19 : goal.returns-in-19
returns-in-19 c =
    λ out. let t = c in c.cell.ensures.is
    t.args.given.bound.text.now t.args.given.bound.table.now t.args.given.bound.lines
    (state_of t.args.given.text.now t.args.given.tape.now t.args.code.now t.args.starts.now out t.args.i t.args.far) ∙ sym
    (written_cell _ _ _ _ _ c.in-19.is)

pub returns-in-34 : goal.returns-in-34
returns-in-34 c =
    λ out. let t = c in c.cell-in-34.ensures.is
    t.args.given.bound.text.now t.args.given.bound.table.now t.args.given.bound.lines
    (state_of t.args.given.text.now t.args.given.tape.now t.args.code.now t.args.starts.now out t.args.i t.args.far) ∙ sym
    (written_write _ _ _ _ _ c.in-34.is)

pub returns-in-33 : goal.returns-in-33
returns-in-33 c =
    λ out. let t = c in c.port.ensures.is
    t.args.given.bound.text.now t.args.given.bound.table.now t.args.given.bound.lines
    (state_of t.args.given.text.now t.args.given.tape.now t.args.code.now t.args.starts.now out t.args.i t.args.far) ∙ sym
    (written_assign _ _ _ _ _ c.in-33.is)

pub returns-in-38 : goal.returns-in-38
unfolding around_of
returns-in-38 c = λ out. c.entry.ensures ∙ sym (written_present _ _ _ _ _ c.in-38.is)

pub returns-in-44 : goal.returns-in-44
unfolding state_of
returns-in-44 c =
    λ out. let t = c in c.memory.ensures.is
    t.args.given.bound.text.now t.args.given.bound.table.now t.args.given.bound.lines
    (state_of t.args.given.text.now t.args.given.tape.now t.args.code.now t.args.starts.now out t.args.i t.args.far) ∙ sym
    (written_memory _ _ _ _ _ c.in-44.is)

pub returns-in-46 : goal.returns-in-46
returns-in-46 c =
    λ out. let t = c in c.signed.ensures.is
    t.args.given.bound.text.now t.args.given.bound.table.now t.args.given.bound.lines
    (state_of t.args.given.text.now t.args.given.tape.now t.args.code.now t.args.starts.now out t.args.i t.args.far) ∙ sym
    (written_signed _ _ _ _ _ c.in-46.is)

pub returns-in_default : goal.returns-in_default
unfolding around_of state_of
returns-in_default c =
    λ out. let t = c in c.typed.ensures
    (around_of t.args.given.text.now t.args.given.tape.now t.args.given.many t.args.given.bound.text.now t.args.given.bound.table.now t.args.given.bound.lines t.args.given.widths.now)
    (state_of t.args.given.text.now t.args.given.tape.now t.args.code.now t.args.starts.now out t.args.i t.args.far) refl refl refl
    (record {
      given = omega arith;
      value = omega arith;
      read = omega arith;
      cell =
          omega arith;
      write = omega arith;
      assign = omega arith;
      present = omega arith;
      memory =
          omega arith;
      signed = omega arith;
    })
