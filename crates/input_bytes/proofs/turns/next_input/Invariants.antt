-- `next_input` meets its contract: the ports passed are outputs. Assumes nothing.
use mathlib.Core.Path.{◌≡◌}
use Prim.Native.Nat.{◌-◌, ◌≤◌}
use Rattle.input_bytes.specs.Lines.{next_input, input_from}
use Rattle.input_bytes.proofs.turns.next_input.Given as goal

abbrev pub invariant-loop-i : goal.invariant-loop-i
invariant-loop-i l = (input_from l.plan (l.i-end - l.i) l.i ≡ next_input l.plan l.from) × (l.i-end ≤ 16)
