-- `Tables::begin` meets its contract. Assumes nothing.
use native.Mathlib.Omega.{arith}
use Prim.Native.Nat.{ℕ}
use mathlib.Core.Path.{◌≡◌, ap, ◌∙◌}
use mathlib.Core.Bool.{false}
use lib.ListN.{length, take, replicate}
use lib.Seq.{length-take-le}
use Rattle.item_steps.proofs.Writes.{prepared}
use Rattle.item_steps.proofs.Tables.begin.Goals as goal

pub returns-clause-after : goal.returns-clause-after
returns-clause-after g c =
    let memory = c.args.memory.now in
    let changed = c.args.self.now.changed in
    let n : length (take (length memory) changed) ≡ length memory = length-take-le (length memory) changed (omega arith) in
    rw c.copy_from_slice.ensures.after (prepared memory _ _ _ (c.fill.ensures.after (λ y h. h) ∙ ap (λ (i : ℕ). replicate i false) n))
