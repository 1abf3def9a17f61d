pub mod History
pub mod Accounts
pub mod Turns
