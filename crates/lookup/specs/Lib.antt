pub mod Search
pub mod Lending
