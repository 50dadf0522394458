pub mod Differs
pub mod Holds
pub mod Chain
pub mod Blob
pub mod Way
pub mod Laws
pub mod Walk
