pub mod Command
pub mod Saved
pub mod Loaded
