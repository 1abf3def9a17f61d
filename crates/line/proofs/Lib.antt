pub mod Fields
mod Digits
mod Reading
pub mod Words
pub mod Requests
pub mod Printing
mod Vectors
