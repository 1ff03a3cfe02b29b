pub mod GainWords
pub mod Items
pub mod Bins
pub mod Causes
pub mod Whole
pub mod Reach
