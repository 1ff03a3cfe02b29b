pub mod Quotients
pub mod Patterns
pub mod Steps
pub mod Columns
pub mod Laws
pub mod First
pub mod Vectors
pub mod Wider
