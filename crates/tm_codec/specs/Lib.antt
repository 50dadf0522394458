pub mod Fields
pub mod Places
pub mod Laws
pub mod Padded
