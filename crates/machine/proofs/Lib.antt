pub mod Rules
pub mod Safe
pub mod Turns
