pub mod Taken
pub mod Program
