pub mod Reading
pub mod Work
