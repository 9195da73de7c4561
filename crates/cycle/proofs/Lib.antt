pub mod Answered
pub mod Night
