-- `bindings::values_after` meets its contract: the lines of both sections are copied where the whole text is right. Assumes nothing.
use native.Mathlib.Omega.{arith}
use mathlib.Core.Path.{◌≡◌, sym, ◌∙◌}
use Prim.Native.Nat.{◌*◌}
use lib.ListN.{length, take}
use lib.Seq.{length-take-le}
use Rattle.std.proofs.Common.{rules}
use Rattle.std.specs.Prelude.{Ok, MatchResult}
use Rattle.std.proofs.lemmas.Result.{MatchResult-weaker}
use Rattle.bindings.specs.declared.Fault.TheVariants.{Wrong}
use Rattle.binding_numbers.proofs.Numbers.{lost_in, went_small, exit}
use Rattle.bindings.proofs.Rows.{wrong_told, lines_lost, wrong_values, room, answer_wrong, table_wrong, both_stored, both_table}
use Rattle.bindings.proofs.values_after.Goals as goal

pub returns-in_err-read : goal.returns-in_err-read
returns-in_err-read c =
    let m : MatchResult c.section.result (λ x. ⊥) (λ l. c.in_err-read.field-0.0 ≡ Wrong l.at) = MatchResult-weaker c.section.result c.in_err-read.ensures.cases (λ x p. cc) (λ l p. search rules) in
    let p = wrong_told _ m in
    let w = c.section.ensures.reads in
    let e = room _ _ c.requires.text_len_bound.0 c.requires.text_len_bound.1 in
    let f = wrong_values c.args.text.now c.requires.widths_read.is (lost_in w p.1) (lines_lost _ w p.1) in
    record { answer = rw (exit c.from_residual.ensures.1, p.2) (sym (answer_wrong _ _ e f)); table = sym (table_wrong _ _ e f) }

pub returns-clause-table : goal.returns-clause-table
returns-clause-table c =
    let args = c.args in
    let pre = c.requires in
    let read = c.in_ok-read.read in
    let ws = args.widths.now in
    let vs = c.section.new.table in
    let e : c.section.result ≡ Ok read = search rules in
    let small = went_small c.section.ensures.reads e in
    let n : length (take (3 * args.w) ws) ≡ 3 * args.w = length-take-le (3 * args.w) ws (omega (arith, pre.widths_read.few, pre.widths_read.wide)) in
    let m : length (take (3 * read.number) vs) ≡ 3 * read.number = length-take-le (3 * read.number) vs (omega (arith, small, c.section.auto.table)) in
    both_stored args.table.now _ _ _ (take (3 * args.w) ws) (take (3 * read.number) vs) (3 * args.w) (3 * read.number) c.copy_from_slice.ensures.after c.copy_from_slice-2.ensures.after
    c.split_at_mut-first.ensures.back (sym n) (sym m) (omega (arith, n, m, small, pre.widths_read.few, pre.text_len_bound.1))
    ∙ both_table args.text.now args.table.now ws vs args.w args.at read c.section.result pre.text_len_bound.0 pre.text_len_bound.1 pre.widths_read c.section.ensures e
    (omega (arith, c.section.auto.table)) c.if-read-text.false
