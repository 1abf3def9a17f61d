pub mod File
pub mod Reading
pub mod Reply
pub mod Shape
