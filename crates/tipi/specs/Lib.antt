pub mod Demands
pub mod Told
