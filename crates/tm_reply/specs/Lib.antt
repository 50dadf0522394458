pub mod Escapes
pub mod Layout
pub mod Rows
pub mod Closings
pub mod Replies
pub mod ReplyLaws
