pub mod Items
pub mod Sections
