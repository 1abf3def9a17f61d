pub mod WordsInBytes
pub mod Stores
pub mod Ranges
