pub mod Answers
pub mod Groups
pub mod Judged
pub mod Tests
