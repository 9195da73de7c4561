-- `name_marks::value` meets its contract. Assumes nothing.
use Rattle.name_marks.specs.Marking.{name_mark}
use Rattle.name_marks.proofs.Marked.{one_byte}
use Rattle.name_marks.proofs.value.Goals as goal

pub returns : goal.returns
unfolding name_mark
returns c = rw (c.spelled.ensures.is, c.from.ensures, c.remembered.ensures, one_byte)
