-- What the proofs share: bytes written one after the other (Bytes), a number in decimal (Decimals), digits as they are read (Counting).
pub mod Bytes
pub mod Decimals
pub mod Counting
