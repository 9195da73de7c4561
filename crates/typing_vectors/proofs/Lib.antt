pub mod Judging
pub mod Holding
pub mod Listing
