-- Row 6: the names met on a tape (Seens), what the walk does part by part (Parts, Actors), and that the faulty places are
-- those of the definition (Faults); then the theorem.
pub mod Seens
pub mod Parts
pub mod Actors
pub mod Faults
pub mod Whole
