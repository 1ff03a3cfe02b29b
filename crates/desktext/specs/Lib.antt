-- Spelling and Printed say what a text is, by the section Desk text of docs/FORMAT.md; Text and Channel how it is read.
pub mod Spelling
pub mod Printed
pub mod Text
pub mod Channel
pub mod Work
pub mod Desk
