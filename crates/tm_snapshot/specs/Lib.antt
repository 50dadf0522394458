pub mod Puts
pub mod Completing
pub mod Growth
pub mod Sizes
