-- What the crate's contracts cite.
pub mod Cost
pub mod Choice
pub mod Work
pub mod Planning
pub mod Fit
