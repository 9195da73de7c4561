-- `sized` meets its contract: the items are those of the setting. Assumes nothing.
use native.Mathlib.Omega.{arith}
use Rattle.tipi.proofs.Finishing.{settled_count, settled_held, whole_there}
use Rattle.tipi.proofs.plans.sized.Goals as goal

pub finished-requires : goal.finished-requires
finished-requires c =
    let b = c in
    let a = b.args in
    let e = c.settled-many.ensures in
    let q = settled_count a.text.now a.tape.now a.n a.bound a.widths.now e.long in
    let z = whole_there _ e.long e.items in
    let h = settled_held a.text.now a.tape.now a.n a.bound a.widths.now e.long e.items b.requires.n_in_bounds.0 b.requires.heard.3 b.requires.heard.4 in
    record { many_le_most_items = (omega (arith, q.0, q.1, b.requires.n_in_bounds.1), omega (arith, q.0, z)); settled = (_, _, h) }

pub returns : goal.returns
returns c =
    let b = c in
    let a = b.args in
    let e = c.settled-many.ensures in
    let f = c.finished.ensures in
    λ ws x y h least. f ws _ (settled_held a.text.now a.tape.now a.n a.bound a.widths.now e.long e.items b.requires.n_in_bounds.0 h least)
