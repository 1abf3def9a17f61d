pub mod Checked
pub mod Replying
pub mod Telling
pub mod Reading
