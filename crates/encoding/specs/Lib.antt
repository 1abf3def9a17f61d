pub mod Rows
pub mod Left
pub mod Events
pub mod Kinds
pub mod Laid
