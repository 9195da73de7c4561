-- `item_writes::writes::entry` meets its contract. Assumes nothing.
use mathlib.Core.Path.{ap, ◌∙◌}
use Prim.Native.Nat.{ℕ}
use Rattle.tape.specs.Tape.{PRESENT}
use Rattle.settled.specs.Form.{six}
use Rattle.looked_up.specs.Lookup.{operand}
use Rattle.item_writes.specs.Tables.{numbers_of}
use Rattle.item_writes.proofs.writes.entry.Goals as goal

pub returns : goal.returns
unfolding numbers_of
returns c = let t = c.args in ap (λ (n : ℕ). six PRESENT t.place n t.value 0 0) (c.narrow-port.ensures ∙ ap operand c.numbered.ensures.0)
