-- `ranges::copies` meets its contract: after i turns r is i copies. Assumes nothing.
use mathlib.Core.Path.{◌≡◌}
use Rattle.language.specs.Values.{copies_of}
use Rattle.ranges.proofs.copies.Given as goal

abbrev pub invariant-loop-i : goal.invariant-loop-i
invariant-loop-i l = l.r ≡ copies_of l._i l.w l.a
