pub mod Laws
pub mod Six
pub mod Ahead
