-- What the proofs share: the loops; back over a type or an expression; the walk over each part of an actor; then the theorem, that the walk over an actor's tape
-- meets the faults of the definition.
mod Walking
mod Wholes
mod Sums
mod Runs
mod Actors
mod Heads
mod Theorem
