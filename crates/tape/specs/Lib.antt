pub mod Tape
pub mod Walk
pub mod Row
pub mod Nodes
