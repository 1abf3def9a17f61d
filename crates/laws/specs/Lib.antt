pub mod Choose
pub mod All
pub mod Rows
