pub mod Placed
pub mod Members
pub mod Earliest
pub mod Every
pub mod Lists
pub mod Worded
pub mod Names
pub mod Same
