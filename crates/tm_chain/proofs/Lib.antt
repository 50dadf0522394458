mod Parts
mod Writing
pub mod Held
mod Walking
mod Reading
pub mod Ways
