mod Calls
mod Kept
mod Laying
mod Numbers
mod Reading
pub mod Roots
mod Spelling
pub mod Stopping
