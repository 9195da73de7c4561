-- `Tables::ended` meets its contract. Assumes nothing.
use native.Mathlib.Omega.{arith}
use Rattle.figures.proofs.Bytes.{renamed}
use Rattle.input_bytes.proofs.Endings.{ended_alone}
use Rattle.input_bytes.proofs.tables.Tables.ended.Goals as goal

pub returns-clause-written : goal.returns-clause-written
returns-clause-written c = renamed c.ended.ensures (ended_alone _ _ _ _ _ _ _) (omega arith)
