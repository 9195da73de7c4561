pub mod Fires
pub mod Safety
