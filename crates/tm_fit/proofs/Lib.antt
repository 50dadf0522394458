pub mod Drawing
pub mod Changing
pub mod Stores
