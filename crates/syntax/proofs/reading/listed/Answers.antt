-- `syntax::reading::listed` meets its contract. Assumes nothing.
use native.Mathlib.Omega.{arith}
use Rattle.syntax.proofs.Whole.{listed_room, listed_held, listed_filed, left_said, left_after, kept_said, kept_after}
use mathlib.Core.Path.{◌∙◌}
use Rattle.syntax.proofs.reading.listed.Goals as goal

pub left_out-requires : goal.left_out-requires
left_out-requires c = omega (arith, listed_room c.requires)

pub parsed-requires : goal.parsed-requires
parsed-requires c = listed_filed c.requires

pub returns-in-Some : goal.returns-in-Some
returns-in-Some c = let e = c.left_out.ensures in rw c.refused.ensures (record { answer = left_said c.requires e c.in-Some.is; tape = left_after c.requires e _ c.in-Some.is; room = tt })

pub returns-in-None : goal.returns-in-None
returns-in-None c = let e = c.left_out.ensures in record {
  answer = c.parsed.ensures.answer (listed_held c.requires) ∙ kept_said c.requires e c.in-None.is;
  tape = c.parsed.ensures.tape (listed_held c.requires) ∙ kept_after c.requires e _ c.in-None.is;
  room = c.parsed.ensures.room;
}
