-- What several crates' proofs share.
pub mod Tables
