pub mod Tables
pub mod Texts
pub mod Lines
pub mod Bytes
