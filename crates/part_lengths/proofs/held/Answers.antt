-- `part_lengths::held` meets its contract. Assumes nothing.
use Rattle.std.proofs.Common.{arith, ◌∙◌}
use Rattle.part_lengths.specs.Parts.{places_in}
use Rattle.part_lengths.proofs.Backs.{held_none, held_one, held_two}
use Rattle.part_lengths.proofs.held.Goals as goal

pub returns-in_err-limit : goal.returns-in_err-limit
returns-in_err-limit c = rw c.in_err-limit.was (c.from_residual.ensures ∙ held_none (places_in c.args.table.now 0 c.args.many) c.args.tape.now c.args.end c.args.other)

pub whole-requires : goal.whole-requires
whole-requires c = let h = c.whole-part.ensures.inside in omega arith

pub returns-in-Some : goal.returns-in-Some
returns-in-Some c =
    rw (c.in_ok-limit.was, c.in-Some.is)
    (held_two (places_in c.args.table.now 0 c.args.many) c.args.tape.now c.args.end c.in_ok-limit.limit c.whole-part.ensures c.too_long-first.ensures
    c.in-Some.limit c.whole.ensures c.too_long.ensures c.both.ensures)

pub returns-in-None : goal.returns-in-None
returns-in-None c =
    rw (c.in_ok-limit.was, c.in-None.is)
    (held_one (places_in c.args.table.now 0 c.args.many) c.args.tape.now c.args.end c.in_ok-limit.limit c.whole-part.ensures c.too_long-first.ensures)
