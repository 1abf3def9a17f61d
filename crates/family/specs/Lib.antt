pub mod Family
pub mod Promises
