-- `item_writes::nodes::width` meets its contract: the width of the part that is the latest type. Assumes nothing.
use mathlib.Core.Path.{ap, ◌∙◌}
use mathlib.Core.List.{List}
use Prim.Native.Nat.{ℕ}
use Rattle.language.specs.Types.{width_of}
use Rattle.type_value.specs.Walk.{part, value_of}
use Rattle.looked_up.specs.Lookup.{operand}
use Rattle.item_writes.specs.Tables.{begins_at}
use Rattle.item_writes.proofs.Waiting.{Begins, latest_is}
use Rattle.item_writes.proofs.nodes.width.Goals as goal

pub returns : goal.returns
unfolding begins_at
returns c =
    let s = c in
    let b = c.begins-from.ensures ∙ ap (Begins s.args.starts.now s.args.w.types s.args.w.nodes) c.saturating_sub.ensures in
    let p = ap (λ (q : ℕ). part s.args.code.now q s.args.w.nodes) b ∙ latest_is s.args.starts.now s.args.code.now s.args.w.types s.args.w.nodes in
    c.narrow.ensures ∙ ap operand (c.width_at.ensures.value s.requires.1 ∙ ap (λ (l : List ℕ). width_of (value_of s.args.widths.now l)) p)
