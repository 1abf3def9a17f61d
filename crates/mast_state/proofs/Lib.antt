pub mod Commands
pub mod FileOf
pub mod FromFile
