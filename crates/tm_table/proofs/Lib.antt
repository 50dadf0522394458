pub mod Writing
pub mod Leaving
pub mod Standing
mod Reading
mod Growing
pub mod OneText
