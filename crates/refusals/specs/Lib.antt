pub mod Tests
pub mod Defined
