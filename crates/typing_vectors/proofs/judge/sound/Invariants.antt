-- `typing_vectors::judge::sound` meets its contract: the types that wait have the code that is passed. Assumes nothing.
use mathlib.Core.Path.{◌≡◌}
use Prim.Native.Nat.{◌≤◌}
use lib.ListN.{length}
use Rattle.type_value.specs.Walk.{part}
use Rattle.typing_vectors.specs.Judged.{Held}
use Rattle.typing_vectors.proofs.judge.sound.Given as goal

abbrev pub invariant-loop-i : goal.invariant-loop-i
invariant-loop-i l = (l.n ≤ 64) × (length l.marks ≡ 64) × Held l.unknowns l.marks l.n (part l.code l.from l.i)
