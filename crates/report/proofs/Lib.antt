pub mod Writing
pub mod Printing
pub mod Room
mod Worked
