pub mod Masks
pub mod Reversal
pub mod Fits
