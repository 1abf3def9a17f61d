pub mod Choose
pub mod All
pub mod Fit
pub mod Rows
pub mod Mapped
