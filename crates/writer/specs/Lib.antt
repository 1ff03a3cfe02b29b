pub mod Written
pub mod Work
pub mod Puts
