pub mod Logs
pub mod Compare
