pub mod Selector
pub mod Slot
pub mod Tag
pub mod Fields
pub mod Root
pub mod Gate
pub mod Load
pub mod Laws
