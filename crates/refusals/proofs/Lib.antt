pub mod Guards
pub mod Defined
pub mod Testing
