pub mod Kinds
pub mod Tells
pub mod Signs
