pub mod Queue
pub mod TakeGive
