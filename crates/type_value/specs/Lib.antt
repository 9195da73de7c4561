pub mod Terms
pub mod Walk
pub mod Held
