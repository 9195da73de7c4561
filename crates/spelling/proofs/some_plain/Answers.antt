-- `spelling::some_plain` meets its contract. Assumes nothing.
use Rattle.std.proofs.Common.{◌∙◌, rules, tests}
use Rattle.std.proofs.lemmas.Iterator.{YieldsList-from_slice}
use Rattle.std.proofs.lemmas.Iterator.Search.{any_from_yields_List}
use Rattle.language.specs.Words.{plain_byte}
use Rattle.spelling.proofs.Laws.{some_std}
use Rattle.spelling.proofs.some_plain.Goals as goal

pub returns : goal.returns
returns c = any_from_yields_List plain_byte _ _ c.any.result c.any.ensures.ran (YieldsList-from_slice c.args.run.now cc) (λ x b q k. search (rules, tests)) ∙ some_std plain_byte c.args.run.now
