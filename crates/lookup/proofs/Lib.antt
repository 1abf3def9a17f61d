pub mod Model
pub mod Searches
pub mod Answers
pub mod LastLook
pub mod CallerAndSlot
pub mod Lending
