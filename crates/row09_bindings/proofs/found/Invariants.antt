-- `row09_bindings::found` meets its contract: the lines passed do not have the name. Assumes nothing.
use Rattle.std.proofs.Common.{◌≡◌, ◌+◌, ◌-◌}
use Rattle.language.specs.Text.{index}
use Rattle.placed.specs.Placed.{name_from}
use Rattle.row09_bindings.specs.Lines.{names_on}
use Rattle.row09_bindings.proofs.found.Given as goal

abbrev pub invariant-loop-i : goal.invariant-loop-i
invariant-loop-i l = l.from + index (names_on l.bound.text.now l.bound.table.now l.from (l.to - l.from)) (name_from l.text l.place) ≡ l.i + index (names_on l.bound.text.now l.bound.table.now l.i (l.to - l.i)) (name_from l.text l.place)
