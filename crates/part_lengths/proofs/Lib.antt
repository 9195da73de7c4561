-- What the proofs share: the tables by operation; back over a part of the tape, and the places of its words.
pub mod Figures
pub mod Backs
