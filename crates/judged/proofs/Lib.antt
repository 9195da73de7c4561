pub mod Fired
pub mod Firing
