pub mod ItemsOf
pub mod Entries
pub mod Runs
pub mod Backups
