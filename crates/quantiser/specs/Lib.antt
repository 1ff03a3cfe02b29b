pub mod Round
pub mod Quantise
pub mod Work
