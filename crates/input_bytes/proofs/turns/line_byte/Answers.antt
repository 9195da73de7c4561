-- `line_byte` meets its contract. Assumes nothing.
use mathlib.Core.Path.{sym, ap, ◌∙◌}
use mathlib.Core.List.{List}
use Prim.Native.Nat.{ℕ}
use Rattle.input_bytes.specs.Lines.{number_ends}
use Rattle.input_bytes.proofs.Ends.{left_takes, left_unbegun, left_as, line_ends}
use Rattle.input_bytes.proofs.turns.line_byte.Goals as goal

pub returns-then-takes_in_line : goal.returns-then-takes_in_line
returns-then-takes_in_line c = left_takes _ _ _ _ _ _ _ _ (sym c.takes_in_line.ensures ∙ c.if-takes_in_line.true) c.longer.ensures

pub returns-in-Some : goal.returns-in-Some
returns-in-Some c =
    let args = c.args in
    left_as c.number_ends.ensures
    (ap (λ (l : List ℕ). number_ends args.s c.in-Some.n args.b l args.values.now args.outputs.now args.memory.now) c.planned.ensures ∙ line_ends _ _ _ _ _ _ _ (sym c.takes_in_line.ensures ∙ c.if-takes_in_line.false) c.in-Some.is)

pub returns-in-None : goal.returns-in-None
returns-in-None c = left_unbegun _ _ _ _ _ _ _ _ (sym c.takes_in_line.ensures ∙ c.if-takes_in_line.false) c.in-None.is c.wrong.ensures
