pub mod Constant
