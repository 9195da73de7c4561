pub mod Machine
pub mod Ready
pub mod Tables
