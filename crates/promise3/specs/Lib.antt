pub mod Promise
pub mod Aht
pub mod Ahtenc
