pub mod Whole
pub mod Back
pub mod Runs
