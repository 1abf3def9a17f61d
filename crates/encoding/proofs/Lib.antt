pub mod Every
pub mod ReadingRows
pub mod ReadingEvents
pub mod Found
pub mod Laid
pub mod Noting
pub mod Clearing
