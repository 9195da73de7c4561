-- `bindings::read` meets its contract: the section of widths is read apart, and then that of values. Assumes nothing.
use native.Mathlib.Omega.{arith}
use mathlib.Core.Path.{◌≡◌, sym}
use mathlib.Core.Bool.{false}
use Rattle.std.proofs.Common.{rules}
use Rattle.std.specs.Prelude.{Ok, MatchResult}
use Rattle.std.proofs.lemmas.Result.{MatchResult-weaker}
use Rattle.bindings.specs.Table.{roomy}
use Rattle.bindings.specs.declared.Fault.TheVariants.{Wrong}
use Rattle.binding_numbers.proofs.Numbers.{went_in, went_small, lost_in, exit}
use Rattle.bindings.proofs.Rows.{named_value, wrong_told, lines_went, lines_lost, wrong_widths, no_text_room, no_table_room, room, answer_none, table_none, answer_wrong, table_wrong}
use Rattle.bindings.proofs.read.Goals as goal
use Rattle.bindings.proofs.read.Goals.{then-text-gt-BYTES-via-then-text-gt-BYTES, then-text-gt-BYTES-via-else-text-gt-BYTES+then-table-lt-NUMBERS}

pub returns-then-text-gt-BYTES : goal.returns-then-text-gt-BYTES
returns-then-text-gt-BYTES c =
    let e : roomy c.args.text.now c.args.table.now ≡ false = elim c.then-text-gt-BYTES.branch [
      | then-text-gt-BYTES-via-then-text-gt-BYTES w ↦ no_text_room _ _ w.if-text-gt-BYTES.true
      | then-text-gt-BYTES-via-else-text-gt-BYTES+then-table-lt-NUMBERS w ↦ no_table_room _ _ w.if-text-gt-BYTES.false w.if-table-lt-NUMBERS.true
    ] in
    record { answer = sym (answer_none _ _ e); table = sym (table_none _ _ e) }

pub returns-in_err-read : goal.returns-in_err-read
returns-in_err-read c =
    let m : MatchResult c.section.result (λ x. ⊥) (λ l. c.in_err-read.field-0.0 ≡ Wrong l.at) = MatchResult-weaker c.section.result c.in_err-read.ensures.cases (λ x p. cc) (λ l p. search rules) in
    let p = wrong_told _ m in
    let w = c.section.ensures.reads in
    let e = room _ _ c.if-text-gt-BYTES.false c.if-table-lt-NUMBERS.false in
    let f = wrong_widths c.args.text.now (lost_in w p.1) (lines_lost _ w p.1) in
    record { answer = rw (exit c.from_residual.ensures.1, p.2) (sym (answer_wrong _ _ e f)); table = sym (table_wrong _ _ e f) }

pub values_after-requires : goal.values_after-requires
values_after-requires c =
    let section = c.section in
    let w = section.ensures.reads in
    let e : section.result ≡ Ok c.in_ok-read.read = search rules in
    record {
      widths_read = record {
        is = lines_went _ w e;
        named = named_value e section.ensures.named;
        few = went_small w e;
        wide = omega (arith, section.auto.table);
        inside = went_in w e;
      };
      text_len_bound = (c.if-text-gt-BYTES.false, c.if-table-lt-NUMBERS.false);
    }
