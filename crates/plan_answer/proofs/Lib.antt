pub mod Saying
pub mod Sums
