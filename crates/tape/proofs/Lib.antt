-- What the proofs of rows share: walks over a tape by index and by part (Walks, Tapes, Does), over types and expressions of which names alone are asked (Asks).
pub mod Walks
pub mod Tapes
pub mod Does
pub mod Asks
pub mod Seens
pub mod Listed
