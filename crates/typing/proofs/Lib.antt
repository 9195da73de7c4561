pub mod Sentence
pub mod Progress
pub mod Decided
pub mod Rules
pub mod Bridge
pub mod Accepted
pub mod Exists
