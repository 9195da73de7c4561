-- `item_writes::writes::read` meets its contract: the latest `let` in force of the name, or a port. Assumes nothing.
use mathlib.Core.Path.{◌≡◌, sym, ap, ap₂, ◌∙◌}
use mathlib.Core.Bool.{true, false}
use Prim.Native.Nat.{ℕ, suc, ◌-◌}
use native.Mathlib.Omega.{arith}
use Rattle.language.specs.Text.{index, among}
use Rattle.placed.specs.Placed.{name_from}
use Rattle.settled.specs.Form.{six, HELD}
use Rattle.looked_up.specs.Lookup.{operand}
use Rattle.item_writes.specs.Walk.{around_of}
use Rattle.item_writes.specs.Tables.{numbers_of}
use Rattle.item_writes.proofs.Writing.{read_held, read_port}
use Rattle.item_writes.proofs.writes.read.Goals as goal

pub returns-then-said : goal.returns-then-said
unfolding numbers_of around_of
returns-then-said c = λ btext table lines s el ev.
    let t = c in
    let n = c.name-called.ensures in
    let e : among s.lets (name_from t.args.given.text.now t.args.place) ≡ true = ap₂ among el (sym n) ∙ sym c.said.ensures ∙ c.if-said.true in
    let f : c.latest-k.result ≡ index s.lets (name_from t.args.given.text.now t.args.place) = c.latest-k.ensures ∙ ap₂ index (sym el) n in
    let g : c.saturating_sub-slot.result ≡ s.vals - suc (index s.lets (name_from t.args.given.text.now t.args.place)) = omega (arith, f, ev, c.saturating_sub.ensures, c.saturating_sub-slot.ensures) in
    ap (λ (q : ℕ). six HELD t.args.place q 0 0 0) (c.narrow.ensures ∙ ap operand g)
    ∙ sym (read_held (around_of t.args.given.text.now t.args.given.tape.now t.args.given.many btext table lines t.args.given.widths.now) s t.args.place e)

pub returns : goal.returns
unfolding numbers_of around_of
returns c = λ btext table lines s el ev.
    let t = c in
    let n = c.name-called.ensures in
    let e : among s.lets (name_from t.args.given.text.now t.args.place) ≡ false = ap₂ among el (sym n) ∙ sym c.said.ensures ∙ c.if-said.false in
    c.port.ensures.is btext table lines s
    ∙ sym (read_port (around_of t.args.given.text.now t.args.given.tape.now t.args.given.many btext table lines t.args.given.widths.now) s t.args.place e)
