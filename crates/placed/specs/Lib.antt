pub mod Placed
pub mod Members
pub mod Worded
