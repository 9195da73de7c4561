pub mod Parts
pub mod Spelled
