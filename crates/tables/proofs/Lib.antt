pub mod Tests
pub mod Rules
pub mod Address
