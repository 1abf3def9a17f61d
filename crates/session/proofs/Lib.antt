pub mod Held
pub mod Output
pub mod Feeding
pub mod Line
pub mod Standing
pub mod Whole
pub mod Replay
pub mod Worked
