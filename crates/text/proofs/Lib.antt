pub mod Words
pub mod Saying
pub mod Lines
pub mod ByWord
pub mod Events
pub mod Bytes
pub mod InParts
pub mod Worked
