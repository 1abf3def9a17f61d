pub mod Agreeing
pub mod Reply
pub mod Entered
pub mod Task
pub mod Open
pub mod Tables
