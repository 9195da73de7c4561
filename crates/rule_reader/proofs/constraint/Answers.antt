-- `rule_reader::constraint` meets its contract. Assumes nothing.
use mathlib.Core.Path.{sym, ◌∙◌}
use native.Mathlib.Omega.{arith}
use Rattle.readers.proofs.Laws.{moved_more}
use Rattle.readers.specs.Meets.{fault}
use Rattle.rule_reader.proofs.Ruled.{one_group, constraint_or, constraint_none}
use Rattle.rule_reader.proofs.constraint.Goals as goal

pub returns-in-9 : goal.returns-in-9
returns-in-9 c = record {
  moved = moved_more (omega (arith, c.requires)) c.group.ensures.moved;
  agrees = λ M f h. rw (constraint_or M f _ (sym c.kind.ensures.is ∙ c.in-9.is)) (one_group (c.group.ensures.agrees M f (omega (arith, c.requires))));
}

pub returns-in_default : goal.returns-in_default
returns-in_default c = record { moved = omega (arith, c.requires); agrees = λ M f h. rw (constraint_none M f c.args.at (λ q. omega (arith, c.kind.ensures.is ∙ q)) (λ q. omega (arith, c.kind.ensures.is ∙ q))) fault }
