-- `item_writes::nodes::without` meets its contract. Assumes nothing.
use mathlib.Core.Path.{◌≡◌, ap, ◌∙◌}
use Prim.Native.Nat.{◌-◌}
use native.Mathlib.Omega.{arith}
use Rattle.item_writes.specs.Tables.{begins_at}
use Rattle.item_writes.proofs.Waiting.{Begins, fewer}
use Rattle.item_writes.proofs.nodes.without.Goals as goal

pub returns : goal.returns
unfolding begins_at
returns c =
    let s = c in
    let n = c.saturating_sub-n.ensures in
    let e : c.begins.result ≡ Begins s.args.starts.now s.args.w.types s.args.w.nodes (s.args.w.types - s.args.k) = c.begins.ensures ∙ ap (Begins s.args.starts.now s.args.w.types s.args.w.nodes) n in
    let f = fewer s.args.starts.now s.args.k s.args.w.types s.args.w.nodes s.requires.1 in
    rw (n, e) (record { types = omega arith; nodes = f.within; ordered = f.ordered }, f.is)
