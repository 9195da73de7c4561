pub mod PlanOf
pub mod Formed
pub mod Accepted
pub mod Lengths
pub mod Theorems
pub mod Row11
pub mod Row13
