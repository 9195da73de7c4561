-- What the proofs share: rows by their answers (Judging), rows 1 to 5 (Texts), rows 11 to 13 (Finishing), sums (Sums); at least one answer (Answers) and at most one (Theorems); the page (Demands).
pub mod Judging
pub mod Texts
pub mod Finishing
pub mod Answers
pub mod Theorems
pub mod Demands
