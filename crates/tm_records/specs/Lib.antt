pub mod Records
pub mod Puts
pub mod Removes
pub mod Undo
