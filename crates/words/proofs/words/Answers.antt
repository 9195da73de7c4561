-- `words::words` meets its contract: what is left of the text, read from here after the words so far, gives what all gives. Assumes nothing.
use native.Mathlib.Omega.{arith}
use mathlib.Core.Path.{refl, sym, ◌∙◌}
use Rattle.first_word.proofs.Parts.{next_over}
use Rattle.words.proofs.Whole.{reading_start, reading_apart, reading_word, tells_over, tells_wrong, tells_apart, tells_word, found_all, table_all, found_bad, table_bad, no_text_room, no_table_room, room, found_none, table_none}
use Rattle.words.proofs.words.Goals as goal

pub returns-then-text-gt-BYTES : goal.returns-then-text-gt-BYTES
returns-then-text-gt-BYTES c = let e = no_text_room _ _ c.if-text-gt-BYTES.true in record { answer = sym (found_none _ _ e); table = sym (table_none _ _ e) }

pub returns-then-table-text : goal.returns-then-table-text
returns-then-table-text c = let e = no_table_room c.args.text.now c.args.table.now c.if-text-gt-BYTES.false (omega arith) in record { answer = sym (found_none _ _ e); table = sym (table_none _ _ e) }

pub loop-at-init : goal.loop-at-init
loop-at-init c = (refl, reading_start _ _)

pub overflow_cast-result : goal.overflow_cast-result
overflow_cast-result c = omega (arith, c.loop-at.invariant.1.few, c.loop-at.invariant.1.inside, c.if-text-gt-BYTES.false)

pub shape_of-table-in-Over : goal.shape_of-table-in-Over
shape_of-table-in-Over c = c.loop-at.invariant.0

pub returns-in-Over : goal.returns-in-Over
returns-in-Over c =
    let h = room c.args.text.now c.args.table.now c.if-text-gt-BYTES.false (omega arith) in
    let q = tells_over c.next.ensures c.in-Over.is in
    record { answer = sym (found_all c.loop-at.invariant.1 q h); table = sym (table_all c.loop-at.invariant.1 q h) }

pub overflow_cast-result-in-Wrong : goal.overflow_cast-result-in-Wrong
overflow_cast-result-in-Wrong c = omega (arith, c.loop-at.invariant.1.few, c.loop-at.invariant.1.inside, c.if-text-gt-BYTES.false)

pub shape_of-table-in-Wrong : goal.shape_of-table-in-Wrong
shape_of-table-in-Wrong c = c.loop-at.invariant.0

pub returns-in-Wrong : goal.returns-in-Wrong
returns-in-Wrong c =
    let h = room c.args.text.now c.args.table.now c.if-text-gt-BYTES.false (omega arith) in
    let q = tells_wrong c.next.ensures c.in-Wrong.is in
    record { answer = sym (found_bad c.loop-at.invariant.1 q h); table = sym (table_bad c.loop-at.invariant.1 q h) }

pub overflow_add-at : goal.overflow_add-at
overflow_add-at c = let a = tells_apart c.next.ensures c.in-Apart.is in omega (arith, a.inside)

pub loop-at-smaller-in-Apart : goal.loop-at-smaller-in-Apart
loop-at-smaller-in-Apart c = let a = tells_apart c.next.ensures c.in-Apart.is in omega (arith, a.inside, a.some)

pub loop-at-preserved-in-Apart : goal.loop-at-preserved-in-Apart
loop-at-preserved-in-Apart c = (c.loop-at.invariant.0, reading_apart c.loop-at.invariant.1 (tells_apart c.next.ensures c.in-Apart.is))

pub put-requires : goal.put-requires
put-requires c =
    let a = tells_word c.next.ensures c.in-Word.is in
    omega (arith, a.inside, a.some, c.loop-at.invariant.0, c.loop-at.invariant.1.few, c.if-text-gt-BYTES.false, c.if-table-text.false, c.loop-at-test.true)

pub overflow_add-i : goal.overflow_add-i
overflow_add-i c = omega (arith, c.loop-at.invariant.1.few, c.loop-at.invariant.1.inside, c.if-text-gt-BYTES.false)

pub overflow_add-at-in-Word : goal.overflow_add-at-in-Word
overflow_add-at-in-Word c = let a = tells_word c.next.ensures c.in-Word.is in omega (arith, a.inside, c.if-text-gt-BYTES.false)

pub loop-at-smaller : goal.loop-at-smaller
loop-at-smaller c = let a = tells_word c.next.ensures c.in-Word.is in omega (arith, a.inside, a.some)

pub loop-at-preserved : goal.loop-at-preserved
loop-at-preserved c =
    (c.put.auto.table ∙ c.loop-at.invariant.0, reading_word c.loop-at.invariant.1 (tells_word c.next.ensures c.in-Word.is) c.put.ensures)

pub overflow_cast-result-2 : goal.overflow_cast-result-2
overflow_cast-result-2 c = omega (arith, c.loop-at.invariant.1.few, c.loop-at.invariant.1.inside, c.if-text-gt-BYTES.false)

pub shape_of-table : goal.shape_of-table
shape_of-table c = c.loop-at.invariant.0

pub returns : goal.returns
returns c =
    let h = room c.args.text.now c.args.table.now c.if-text-gt-BYTES.false (omega arith) in
    let q = next_over c.args.text.now c.loop-at.at c.loop-at-test.false in record { answer = sym (found_all c.loop-at.invariant.1 q h); table = sym (table_all c.loop-at.invariant.1 q h) }
