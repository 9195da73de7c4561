-- `item_writes::writes::signed` meets its contract. Assumes nothing.
use mathlib.Core.Path.{◌≡◌, sym, ap, ◌∙◌}
use mathlib.Core.Bool.{true, false}
use Prim.Native.Nat.{ℕ, ◌+◌}
use lib.ListN.{get_or}
use Rattle.language.specs.Text.{among}
use Rattle.placed.specs.Placed.{name_from}
use Rattle.tape.specs.declared.Class.{Class}
use Rattle.tape.specs.Walk.{between}
use Rattle.tape.specs.Tape.{SIGNED}
use Rattle.settled.specs.Form.{six}
use Rattle.looked_up.specs.Lookup.{operand}
use Rattle.item_writes.specs.Walk.{around_of}
use Rattle.item_writes.specs.Tables.{numbers_of}
use Rattle.item_writes.proofs.Writing.{signed_input, signed_output}
use Rattle.item_writes.proofs.writes.signed.Goals as goal

pub returns-then-said : goal.returns-then-said
unfolding numbers_of around_of
returns-then-said c =
    let t = c in
    let l = between t.args.given.text.now t.args.given.tape.now Class.Input 0 t.args.given.many in
    let e : among l (name_from t.args.given.text.now t.args.place) ≡ true = sym (c.said.ensures ∙ ap (among l) c.name.ensures) ∙ c.if-said.true in
    let w = c.width_of-w.ensures ∙ ap (λ (q : ℕ). get_or t.args.given.widths.now q 0) c.numbered.ensures.0 in
    record { is = λ btext table lines s. ap (λ (q : ℕ). six SIGNED t.args.place q 0 0 0) w ∙ sym (signed_input (around_of t.args.given.text.now t.args.given.tape.now t.args.given.many btext table lines t.args.given.widths.now) s t.args.place e) }

pub returns : goal.returns
unfolding numbers_of around_of
returns c =
    let t = c in
    let l = between t.args.given.text.now t.args.given.tape.now Class.Input 0 t.args.given.many in
    let e : among l (name_from t.args.given.text.now t.args.place) ≡ false = sym (c.said.ensures ∙ ap (among l) c.name.ensures) ∙ c.if-said.false in
    let w = c.width_of-w.ensures ∙ ap (λ (q : ℕ). get_or t.args.given.widths.now q 0) c.numbered.ensures.0 in
    record { is = λ btext table lines s. ap (λ (q : ℕ). six SIGNED t.args.place q 0 0 0) (c.narrow.ensures ∙ ap (λ (q : ℕ). operand (q + 256)) w) ∙ sym (signed_output (around_of t.args.given.text.now t.args.given.tape.now t.args.given.many btext table lines t.args.given.widths.now) s t.args.place e) }
