pub mod Extents
mod Runs
mod Effects
pub mod Rules
mod Masks
mod Sections
mod Firing
mod Outputs
mod Fits
pub mod Faultless
pub mod Facts
mod Means
pub mod Checks
mod SoundRules
mod SoundNames
pub mod SoundSections
mod SoundPlan
pub mod Alike
mod Resolved
mod Short
mod Small
mod PlanSmall
pub mod Grammar
pub mod Read
pub mod Theorems
mod Firsts
mod Walks
mod Left
mod Parts
mod Items
mod Exprs
mod Ends
mod Bodies
mod Actors
pub mod Row11
mod Silent
mod PlanSections
mod Counts
pub mod Row13
