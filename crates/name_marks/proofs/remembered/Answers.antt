-- `name_marks::remembered` meets its contract. Assumes nothing.
use Rattle.std.proofs.Common.{◌∙◌, ap, rules, tests, arith, length, take, ◌/◌}
use Rattle.std.proofs.lemmas.Iterator.{YieldsList-from_slice}
use Rattle.std.proofs.lemmas.Iterator.Search.{any_from_yields_List}
use Rattle.std.specs.List.{list_any}
use Rattle.name_marks.proofs.Marked.{is_item, item_among}
use Rattle.name_marks.proofs.remembered.Goals as goal

pub returns : goal.returns
returns c = any_from_yields_List (λ x. is_item c.args.text.now c.args.name.now x) _ _ c.any.result c.any.ensures.ran (YieldsList-from_slice c.as_chunks.result.0.now cc) (λ x b q k. search (rules, tests))
    ∙ ap (list_any (is_item c.args.text.now c.args.name.now)) c.as_chunks.ensures.front
    ∙ item_among c.args.text.now c.args.name.now (length (take c.args.items.now.n c.args.items.now.tape) / 3) (take c.args.items.now.n c.args.items.now.tape) (omega arith) (omega arith)
