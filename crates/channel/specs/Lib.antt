pub mod Bins
pub mod Row
pub mod Field
pub mod Shown
pub mod Standing
