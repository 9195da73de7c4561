pub mod Groups
pub mod Laws
pub mod Turns
pub mod Vals
pub mod Wides
