pub mod Effects
pub mod Steps
pub mod Bounds
