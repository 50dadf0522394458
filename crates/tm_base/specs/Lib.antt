pub mod Limits
pub mod IsName
pub mod Paths
pub mod PathLaws
pub mod Moments
pub mod Days
pub mod Refusals
pub mod LineFaults
