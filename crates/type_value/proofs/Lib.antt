pub mod Order
pub mod Grows
pub mod Bounds
pub mod Cells
pub mod Walking
pub mod Tested
