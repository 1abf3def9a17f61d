pub mod Signed
pub mod Checking
pub mod Telling
