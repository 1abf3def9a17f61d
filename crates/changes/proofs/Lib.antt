pub mod PutWakeStart
pub mod Leaving
pub mod Joining
pub mod Ticks
pub mod TickSlots
