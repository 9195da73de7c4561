-- `row07_limits::items::item_fault` meets its contract: its parts, and the earliest of them. Assumes nothing.
use Rattle.std.proofs.Common.{◌∙◌}
use Rattle.part_lengths.specs.Parts.{places_in}
use Rattle.row07_limits.proofs.Walking.{item_told}
use Rattle.row07_limits.proofs.items.item_fault.Goals as goal

pub returns : goal.returns
returns c =
    item_told (places_in c.args.table.now 0 c.args.many) c.args.room c.args.tape.now c.args.i c.full.ensures c.then_some-one.ensures
    (c.unwrap_or-size_place.ensures ∙ c.size_before.ensures _) c.bad_size.ensures c.then_some-sized.ensures c.last_limit.ensures c.other_limit.ensures
    c.held-long.ensures c.both.ensures c.both-2.ensures
