pub mod Arms
pub mod Lists
pub mod Tests
pub mod Waits
