pub mod Scalars
pub mod Work
