-- `first_word::run_at` meets its contract. Assumes nothing.
use Rattle.spans.proofs.Spans.{part_name}
use Rattle.first_word.proofs.run_at.Goals as goal

pub returns : goal.returns
returns c = part_name c.args.text.now c.args.at c.part.ensures c.run.ensures
