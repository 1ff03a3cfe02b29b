pub mod Bits
pub mod Format
pub mod Work
pub mod Takes
