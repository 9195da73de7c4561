mod Table
pub mod Laws
pub mod Spells
pub mod Fixed
mod Arms
pub mod Turns
pub mod Lists
pub mod Commas
