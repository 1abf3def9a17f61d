pub mod LayoutWords
pub mod LayoutRead
pub mod LayoutHolds
pub mod LayoutStore
pub mod LayoutTest
pub mod LoadStore
