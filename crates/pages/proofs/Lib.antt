pub mod Pieces
pub mod Lines
pub mod Cells
pub mod Call
pub mod Back
pub mod Bytes
pub mod Printed
