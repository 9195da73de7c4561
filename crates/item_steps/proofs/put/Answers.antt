-- `put` meets its contract. Assumes nothing.
use native.Mathlib.Omega.{arith}
use Prim.Native.Nat.{ℕ, ◌-◌}
use mathlib.Core.Path.{sym, ap, ◌∙◌}
use mathlib.Core.List.{List, ◌∷◌}
use Rattle.plan.proofs.Waits.{top_push, top_drop}
use Rattle.item_steps.proofs.put.Goals as goal

pub returns : goal.returns
returns c =
    let args = c.args in
    let pre = c.requires in (
      omega arith,
      top_push args.stack.now (args.n - args.k) args.v (omega arith) ∙ ap (λ (vs : List ℕ). args.v ∷ vs)
          (sym (top_drop args.stack.now args.n args.k pre.0)),
    )
