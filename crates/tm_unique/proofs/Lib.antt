pub mod Sizes
pub mod OneFolder
