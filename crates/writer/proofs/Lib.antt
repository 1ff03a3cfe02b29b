pub mod Turns
pub mod Words
pub mod Allowed
pub mod Channel
pub mod Call
pub mod Planned
pub mod Wider
