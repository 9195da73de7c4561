pub mod Laws
pub mod Digits
pub mod Counts
pub mod Sets
pub mod Cases
pub mod Rules
