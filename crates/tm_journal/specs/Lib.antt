pub mod Rows
pub mod Cover
pub mod Keepable
pub mod Journals
pub mod Kept
