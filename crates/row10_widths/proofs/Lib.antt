-- What the proof shares: the nodes of a type off its items; the search over an actor's tape; names, lines and counts; the theorem.
mod Nodes
mod Sought
mod Named
pub mod Whole
