-- `item_writes::nodes::position` meets its contract: the position of the part that is the latest type. Assumes nothing.
use mathlib.Core.Path.{sym, ap, ◌∙◌}
use mathlib.Core.List.{List}
use Prim.Native.Nat.{ℕ}
use Rattle.language.specs.Types.{position_of}
use Rattle.type_value.specs.Walk.{part, value_of}
use Rattle.exact.specs.Room.{positioned}
use Rattle.looked_up.specs.Lookup.{operand}
use Rattle.item_writes.specs.Tables.{begins_at}
use Rattle.item_writes.proofs.Waiting.{Begins, latest_is}
use Rattle.item_writes.proofs.Writing.{position_at_law, position_outside}
use Rattle.item_writes.proofs.nodes.position.Goals as goal

pub returns-in-Some : goal.returns-in-Some
unfolding begins_at
returns-in-Some c =
    let s = c in
    let b = c.begins-from.ensures ∙ ap (Begins s.args.starts.now s.args.w.types s.args.w.nodes) c.saturating_sub.ensures in
    let p = ap (λ (q : ℕ). part s.args.code.now q s.args.w.nodes) b ∙ latest_is s.args.starts.now s.args.code.now s.args.w.types s.args.w.nodes in
    c.narrow.ensures ∙ ap operand (position_at_law _ _ (sym c.in-Some.is ∙ c.position_at.ensures.value s.requires.1 ∙ ap (λ (l : List ℕ). positioned (position_of (value_of s.args.widths.now l))) p))

pub returns-in-None : goal.returns-in-None
unfolding begins_at
returns-in-None c =
    let s = c in
    let b = c.begins-from.ensures ∙ ap (Begins s.args.starts.now s.args.w.types s.args.w.nodes) c.saturating_sub.ensures in
    let p = ap (λ (q : ℕ). part s.args.code.now q s.args.w.nodes) b ∙ latest_is s.args.starts.now s.args.code.now s.args.w.types s.args.w.nodes in
    position_outside _ (sym c.in-None.is ∙ c.position_at.ensures.value s.requires.1 ∙ ap (λ (l : List ℕ). positioned (position_of (value_of s.args.widths.now l))) p)
