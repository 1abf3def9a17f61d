pub mod Codec
pub mod Record
pub mod Layout
pub mod Sizes
pub mod View
