pub mod Gains
pub mod Work
