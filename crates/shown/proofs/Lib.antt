pub mod Putting
pub mod Reading
pub mod Room
mod Worked
