pub mod Cycle
pub mod Turn
