pub mod Heads
pub mod Declares
