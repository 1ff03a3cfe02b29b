pub mod Codes
pub mod Exact
pub mod Value
pub mod Component
pub mod Work
