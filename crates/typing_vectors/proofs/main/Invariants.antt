-- `typing_vectors::main` is safe and ends: at most 1000 rows. Assumes nothing.
use Prim.Native.Nat.{◌<◌}
use Rattle.typing_vectors.proofs.main.Given as goal

abbrev pub invariant-loop : goal.invariant-loop
invariant-loop l = l.k < 10000
