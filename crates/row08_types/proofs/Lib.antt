-- What the proofs share: the two scans over a type; the places that the walk finds in a type, then in an actor; the theorem; what the code's arms and turns know.
mod Scans
mod Walks
mod Rules
mod Parts
mod Actors
mod Whole
mod Turns
