-- `read` meets its contract. Assumes nothing.
use mathlib.Core.Path.{ap, ◌∙◌}
use lib.ListN.{replicate}
use Rattle.std.specs.Prelude.{Err}
use Rattle.tipi.proofs.Judging.{after_as}
use Rattle.tipi.proofs.Texts.{long_actor, long_bindings, bindings_wrong, never_no_room, bindings_filled, bindings_bound, after_read}
use borrow.Author.Rules.{rules}
use Rattle.tipi.proofs.read.Goals as goal

pub returns-then-text : goal.returns-then-text
returns-then-text c = rw c.refused.ensures (after_read _ _ (long_actor _ _ _ c.if-text.true))

pub returns-then-bindings : goal.returns-then-bindings
returns-then-bindings c = rw c.refused-then-bindings.ensures (after_read _ _ (long_bindings _ _ _ c.if-text.false c.if-bindings.true))

pub invariant_of-bound : goal.invariant_of-bound
invariant_of-bound c = record { lined = (bindings_filled c.args.text.now c.args.bindings.now (replicate 96 0) c.read.ensures.answer c.read.ensures.table c.in-Ok.is).room }

pub worded-requires : goal.worded-requires
worded-requires c =
    let q = bindings_filled c.args.text.now c.args.bindings.now (replicate 96 0) c.read.ensures.answer c.read.ensures.table c.in-Ok.is in
    record { text_len_bound = c.if-text.false; binds = (q.bindings, q.binds) }

pub returns-in-Ok : goal.returns-in-Ok
returns-in-Ok c =
    let q = bindings_filled c.args.text.now c.args.bindings.now (replicate 96 0) c.read.ensures.answer c.read.ensures.table c.in-Ok.is in
    after_read _ _ (after_as (bindings_bound _ _ q.bindings c.if-text.false c.if-bindings.false q.binds.reads) (c.worded.ensures q.bindings q.binds))

pub returns-in-Err-Wrong : goal.returns-in-Err-Wrong
returns-in-Err-Wrong c =
    let e = c.in-Err-Wrong.is ∙ ap Err c.in-Err-Wrong.field-0-is in
    rw (c.refused-in-Err-Wrong.ensures, c.in-Err-Wrong.field-0-is)
    (after_read _ _ (bindings_wrong c.args.text.now c.args.bindings.now (replicate 96 0) c.if-text.false c.if-bindings.false (search rules) _ c.read.ensures.answer e))

pub returns-in-Err-NoRoom : goal.returns-in-Err-NoRoom
returns-in-Err-NoRoom c =
    absurd (never_no_room c.args.text.now c.args.bindings.now (replicate 96 0) c.if-text.false c.if-bindings.false (search rules) c.read.ensures.answer (c.in-Err-NoRoom.is ∙ ap Err c.in-Err-NoRoom.field-0-is))
