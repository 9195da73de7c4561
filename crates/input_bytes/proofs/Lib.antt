pub mod Counting
pub mod Ends
pub mod Endings
pub mod Bytewise
pub mod Numbers
pub mod Lengths
pub mod Signatures
pub mod Spent
