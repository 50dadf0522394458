mod Bits
mod Filling
pub mod Counting
