pub mod Answers
pub mod Finding
pub mod Blank
pub mod Sides
pub mod Joining
