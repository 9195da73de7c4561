-- What a cycle works in, before the first. Assumes nothing: these are definitions.
use Rattle.std.specs.Prelude.{false, ℕ, replicate}
use Rattle.plan.specs.Sound.{waiting}
use Rattle.item_steps.specs.declared.Tables.{Tables}

-- no value waits, every cell is 0, and nothing is written
abbrev pub empty_tables : (cells : ℕ) → Tables cells
empty_tables cells = record { stack = replicate waiting 0; next = replicate cells 0; changed = replicate cells false; clash = false }
