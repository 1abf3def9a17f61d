pub mod Shown
pub mod Puts
