-- `gaps::close` meets its contract: the comment's end is as far from the start as the bytes passed and what is left say. Assumes nothing.
use mathlib.Core.Path.{◌≡◌}
use Prim.Native.Nat.{◌-◌}
use lib.ListN.{drop}
use Rattle.language.specs.Words.{close}
use Rattle.gaps.proofs.Gaps.{raised}
use Rattle.gaps.proofs.close.Given as goal

abbrev pub invariant-loop-i : goal.invariant-loop-i
invariant-loop-i l = close (drop l.at l.text) ≡ raised (l.i - l.at) (close (drop l.i l.text))
