pub mod Untold
pub mod Places
pub mod Blocks
pub mod Images
pub mod World
