pub mod Marks
pub mod Entries
pub mod Classes
pub mod Passes
pub mod Walks
pub mod Slots
pub mod Model
pub mod Bytes
