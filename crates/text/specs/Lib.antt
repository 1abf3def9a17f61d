pub mod Words
pub mod Spoken
pub mod Reading
pub mod Feeding
