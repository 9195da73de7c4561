-- `row08_types::fault` meets its contract: the earliest of the places of the walk is row 8's. Assumes nothing.
use Rattle.std.proofs.Common.{arith, ◌∙◌, ◌/◌}
use Rattle.tape.proofs.Walks.{earliest_marked}
use Rattle.row08_types.specs.Walk.{faulty}
use Rattle.row08_types.proofs.Whole.{earliest_fault}
use Rattle.row08_types.proofs.fault.Goals as goal

pub returns : goal.returns
returns c = λ text ws a h.
    let t = c.args.tape.now in
    let n = c.args.n in
    c.walk.ensures ∙ earliest_marked (faulty t n) t (n / 3) ∙ earliest_fault t n (n / 3) c.requires (omega arith) (omega arith) h
