pub mod Paged
pub mod Laws
pub mod Cuts
pub mod Runs
pub mod Plans
pub mod Directory
