pub mod Marks
pub mod Counts
pub mod Takes
pub mod Gives
pub mod Words
pub mod Laws
