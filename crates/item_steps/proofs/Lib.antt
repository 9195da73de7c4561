pub mod Leaves
pub mod Writes
