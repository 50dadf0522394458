pub mod Marks
pub mod Changes
pub mod Touched
pub mod After
