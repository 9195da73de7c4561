-- `binding_names::taken` meets its contract. Assumes nothing.
use native.Mathlib.Omega.{arith}
use mathlib.Core.Path.{refl, ◌∙◌}
use borrow.Author.Tests.{tests}
use Rattle.std.proofs.Common.{rules}
use Rattle.std.proofs.lemmas.Iterator.{YieldsList-from_range}
use Rattle.std.proofs.lemmas.Iterator.Search.{any_from_yields_List}
use Rattle.binding_names.proofs.Names.{has_name, any_among}
use Rattle.binding_names.proofs.taken.Goals as goal

pub returns : goal.returns
returns c =
    let args = c.args in
    any_from_yields_List (has_name args.text.now args.table.now args.run.now) _ _ _ c.any.ensures.ran (YieldsList-from_range 0 args.k args.k refl (omega arith))
    (λ x b q k. search (rules, tests)) ∙ any_among args.text.now args.table.now args.run.now args.k
