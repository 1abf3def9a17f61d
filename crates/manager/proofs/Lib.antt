pub mod Tested
pub mod Runs
pub mod Looking
