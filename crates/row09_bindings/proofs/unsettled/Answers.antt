-- `row09_bindings::unsettled` meets its contract: the walk over the items is the second half of row 9. Assumes nothing.
use Rattle.std.proofs.Common.{arith, ◌∙◌, ℕ}
use Rattle.tape.proofs.Walks.{earliest_marked}
use Rattle.row09_bindings.specs.Walk.{open_at}
use Rattle.row09_bindings.proofs.Whole.{open_items}
use Rattle.row09_bindings.proofs.unsettled.Goals as goal

pub returns : goal.returns
returns c = λ ws a b h g.
    let opened = λ (j : ℕ). open_at c.args.text.now c.args.tape.now c.args.bound j in
    c.walk.ensures ∙ earliest_marked opened c.args.tape.now _
    ∙ open_items c.args.text.now c.args.tape.now c.args.n _ c.requires (omega arith) (omega arith) h c.args.bound g
