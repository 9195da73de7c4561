-- `name_marks::mark` meets its contract: the words passed are marked, and those that are left are as they were. Assumes nothing.
use Rattle.name_marks.specs.Marking.{Remarked, memories_on}
use Rattle.name_marks.proofs.mark.Given as goal

abbrev pub invariant-loop-i : goal.invariant-loop-i
invariant-loop-i l = Remarked l.text (memories_on l.text l.items.tape l.items.n) l.i l.initial.words l.words
