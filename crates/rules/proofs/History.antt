-- What a run of calls leaves for good: identifiers never come back, a slot freed at the last generation is never used again, and a semaphore keeps its
-- maximum.
pub mod Passed
pub mod Forward
pub mod Used
pub mod CallsForward
pub mod Done
pub mod Unnamed
pub mod Identifiers
pub mod Maximum
