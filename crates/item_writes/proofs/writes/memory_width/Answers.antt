-- `item_writes::writes::memory_width` meets its contract: memories are numbered after the ports. Assumes nothing.
use mathlib.Core.Path.{◌≡◌, sym, ap, ◌∙◌}
use mathlib.Core.List.{◌++◌}
use Prim.Native.Nat.{ℕ, ◌+◌, ◌≤◌, ◌<◌}
use native.Mathlib.Omega.{arith}
use lib.ListN.{length, get_or}
use Rattle.language.specs.Text.{index}
use Rattle.placed.specs.Placed.{name_from}
use Rattle.tape.specs.Tape.{SIGNED, MEMORY}
use Rattle.looked_up.specs.Lookup.{named}
use Rattle.item_writes.specs.Walk.{memory_width_out, around_of}
use Rattle.looked_up.proofs.Numbers.{index_first, index_second}
use Rattle.item_writes.proofs.writes.memory_width.Goals as goal

pub returns-then-k-ports : goal.returns-then-k-ports
unfolding memory_width_out around_of
returns-then-k-ports c =
    let t = c in
    let ports = named t.args.given.text.now t.args.given.tape.now SIGNED 0 t.args.given.many in
    let memories = named t.args.given.text.now t.args.given.tape.now MEMORY 0 t.args.given.many in
    let n = name_from t.args.given.text.now t.args.place in
    let h : index ports n < length ports = omega (arith, c.numbered-k.ensures.0, c.count-ports.ensures.1 t.args.given.text.now, c.if-k-ports.true) in
    record { is = λ btext table lines s. c.width_of.ensures ∙ ap (λ (i : ℕ). get_or t.args.given.widths.now i 0) (c.numbered-k.ensures.0 ∙ sym (index_first memories n ports h)) }

pub returns : goal.returns
unfolding memory_width_out around_of
returns c =
    let t = c in
    let ports = named t.args.given.text.now t.args.given.tape.now SIGNED 0 t.args.given.many in
    let memories = named t.args.given.text.now t.args.given.tape.now MEMORY 0 t.args.given.many in
    let n = name_from t.args.given.text.now t.args.place in
    let h : length ports ≤ index ports n = omega (arith, c.numbered-k.ensures.0, c.count-ports.ensures.1 t.args.given.text.now, c.if-k-ports.false) in
    let e : c.count-ports.result + c.numbered.result ≡ index (ports ++ memories) n = omega (arith, index_second memories n ports h, c.numbered.ensures.0, c.count-ports.ensures.1 t.args.given.text.now) in
    record { is = λ btext table lines s. c.width_of-2.ensures ∙ ap (λ (i : ℕ). get_or t.args.given.widths.now i 0) e }
