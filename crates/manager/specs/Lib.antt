pub mod Entry
pub mod Runs
