-- `name_marks::stands` meets its contract: the run at the place is the part that is as long. Assumes nothing.
use mathlib.Core.Path.{ap, ◌∙◌}
use mathlib.Core.List.{List}
use Prim.Native.Nat.{ℕ}
use Rattle.language.specs.Text.{same}
use Rattle.spans.proofs.Spans.{part_name}
use Rattle.name_marks.proofs.Marked.{same_std}
use Rattle.name_marks.proofs.stands.Goals as goal

pub returns : goal.returns
returns c = c.eq.ensures ∙ same_std _ _ ∙ ap (λ (l : List ℕ). same l c.args.name.now) (part_name c.args.text.now c.args.at c.part.ensures c.run.ensures)
