-- What the proofs share: the types that wait (Waiting); what an item writes (Writing).
pub mod Waiting
pub mod Writing
