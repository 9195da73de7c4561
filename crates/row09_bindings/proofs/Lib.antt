-- What the proofs share: the names of bindings in their text; the lines of a table; the search for a line; the walk over the tape; the theorems.
mod Spelled
pub mod Tables
pub mod Indices
mod Tests
mod Opens
mod Lacks
mod Environs
mod Whole
