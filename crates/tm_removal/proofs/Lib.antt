pub mod Leaving
pub mod Splitting
