pub mod Pages
pub mod Printing
pub mod Reading
pub mod Work
