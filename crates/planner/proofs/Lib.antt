pub mod Optimal
pub mod Codes
pub mod Escape
pub mod Steps
pub mod Tallies
pub mod Chosen
pub mod Answer
pub mod Wider
