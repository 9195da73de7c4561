pub mod Items
pub mod Layout
pub mod Sound
pub mod Waits
