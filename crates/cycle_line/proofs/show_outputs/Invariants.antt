-- `show_outputs` meets its contract: what is left is written after what was. Assumes nothing.
use mathlib.Core.Path.{◌≡◌}
use Prim.Native.Nat.{◌-◌, ◌*◌, ◌≤◌}
use Rattle.figures.specs.Written.{blanked}
use Rattle.cycle_line.specs.Shown.{ports_of, outputs_from}
use Rattle.figures.proofs.Bytes.{Rest}
use Rattle.cycle_line.proofs.show_outputs.Given as goal

abbrev pub invariant-loop-i : goal.invariant-loop-i
invariant-loop-i l = (l.i-end ≡ ports_of l.plan) × (l.i-end ≤ 16) × Rest l.initial.out l.at (blanked (outputs_from l.plan l.outputs (ports_of l.plan) 0)) 336 l.out l.k (blanked (outputs_from l.plan l.outputs (l.i-end - l.i) l.i)) (21 * (l.i-end - l.i))
