pub mod Text
pub mod Good
pub mod Breaks
pub mod Laws
