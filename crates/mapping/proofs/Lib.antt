pub mod Tests
pub mod Forgotten
pub mod Agreeing
pub mod Listed
