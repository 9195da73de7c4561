-- `rules_hold` meets its contract: the first r rules hold, and `end` is where their code ends. Assumes nothing.
use Prim.Native.Nat.{◌*◌, ◌≤◌}
use mathlib.Core.Path.{◌≡◌}
use mathlib.Core.Bool.{true}
use Rattle.plan.specs.Layout.{code_before}
use Rattle.plan.specs.Sound.{all_up_to, rule_ok}
use Rattle.plan_sections.proofs.rules_hold.Given as goal

abbrev pub invariant-loop-r : goal.invariant-loop-r
invariant-loop-r l = (all_up_to l.plan l.r (rule_ok l.plan) ≡ true) × (l.end ≡ code_before l.plan l.r) × (l.end ≤ 4294967295 * l.r)
