-- `Tables::moved` meets its contract. Assumes nothing.
use Rattle.input_bytes.proofs.tables.Tables.moved.Goals as goal

pub returns : goal.returns
returns c = c.moved.ensures
