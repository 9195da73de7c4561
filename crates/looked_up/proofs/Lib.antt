-- What the proofs share: where a name stands among the items of a tape, and among the lines of the bindings (Numbers).
pub mod Numbers
