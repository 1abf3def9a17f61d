pub mod Scripts
pub mod Run
pub mod Refusals
pub mod History
