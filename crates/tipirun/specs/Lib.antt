pub mod Reading
pub mod Machine
pub mod Statement
