-- `tape::name` meets its contract: the run at a place is the part that is as long. Assumes nothing.
use Rattle.spans.proofs.Spans.{part_name}
use Rattle.tape.proofs.name.Goals as goal

pub returns : goal.returns
returns c = part_name c.args.text.now c.args.at c.part.ensures c.run-n.ensures
