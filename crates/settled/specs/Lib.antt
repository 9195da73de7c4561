pub mod Form
pub mod Settled
