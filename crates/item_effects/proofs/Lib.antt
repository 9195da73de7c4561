pub mod Widths
pub mod Tables
