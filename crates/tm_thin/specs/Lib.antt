pub mod Buckets
pub mod Staying
