-- What the proofs share. Of the code: one item (Turns). Then the theorem (Whole): the walk over an actor's tape gives its settled items, part by part
-- from types (Types) to the actor (Actors), with what it looks up (Settings, Around) and what rows 6 to 8 and 10 leave of an actor (Rights).
pub mod Turns
pub mod Types
pub mod Leaving
pub mod Settings
pub mod Expressions
pub mod Statements
pub mod Actors
pub mod Around
pub mod Rights
pub mod Whole
