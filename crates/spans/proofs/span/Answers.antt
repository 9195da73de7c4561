-- `spans::span` meets its contract. Assumes nothing.
use Rattle.std.proofs.Common.{rules, tests}
use Rattle.std.proofs.lemmas.Iterator.{YieldsList-from_slice}
use Rattle.std.proofs.lemmas.Iterator.Consumers.{count_from_yields_List}
use Rattle.std.proofs.lemmas.Iterator.Search.{YieldsList-from_take_while}
use Prim.Native.Nat.{◌-◌}
use lib.ListN.{length, take, drop}
use Rattle.spans.specs.Spans.{test_of}
use Rattle.spans.proofs.Spans.{span_counted}
use Rattle.spans.proofs.span.Goals as goal

pub returns : goal.returns
returns c =
    let rest = take (length c.args.text.now - c.args.at) (drop c.args.at c.args.text.now) in
    span_counted (test_of c.args.class) c.args.text.now c.args.at c.count.result c.requires
    (count_from_yields_List c.take_while.result _ c.count.ensures.ran
    (YieldsList-from_take_while _ (test_of c.args.class) (YieldsList-from_slice rest (cc)) c.take_while.ensures.closure c.take_while.ensures.done (λ x b q k. search (rules, tests))))
