-- `bindings::each_line` meets its contract: the lines that are left, read from here, give what all give. Assumes nothing.
use mathlib.Core.Path.{◌≡◌}
use mathlib.Core.List.{[]}
use lib.ListN.{length, drop}
use Rattle.language.specs.Bindings.{lines}
use Rattle.bindings.proofs.Rows.{Upto}
use Rattle.bindings.proofs.each_line.Given as goal

abbrev pub invariant-loop-i : goal.invariant-loop-i
invariant-loop-i l = (length l.table ≡ length l.initial.table) × Upto l.text l.most l.k (lines (length l.text) l.most l.k [] (drop l.from l.text)) l.table l.at l.i
