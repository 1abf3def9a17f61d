pub mod Pairs
pub mod Plainly
pub mod Printing
