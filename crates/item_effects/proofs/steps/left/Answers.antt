-- `item_effects::steps::left` meets its contract: what it takes is dropped, what it leaves is put on top. Assumes nothing.
use native.Mathlib.Omega.{arith}
use Rattle.size_walk.specs.Steps.{width_on, start_on}
use Rattle.item_effects.proofs.Tables.{top_over, top_less}
use Rattle.item_effects.proofs.steps.left.Goals as goal

pub returns-in-Some : goal.returns-in-Some
unfolding width_on start_on
returns-in-Some c =
    let q = c.saturating_sub-q.ensures in
    rw c.in-Some.is (record {
      few = omega (arith, q);
      widths = top_over _ _ _ _ _ q c.requires.0;
      starts = top_over _ _ _ _ _ q c.requires.1;
    })

pub returns-in-None : goal.returns-in-None
unfolding width_on start_on
returns-in-None c =
    let q = c.saturating_sub-q.ensures in
    rw c.in-None.is (record {
      few = omega (arith, q);
      widths = top_less _ _ _ _ q;
      starts = top_less _ _ _ _ q;
    })
