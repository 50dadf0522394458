mod Tagging
pub mod Standing
mod Retagging
pub mod Weights
pub mod Rooms
pub mod Counting
pub mod Editing
pub mod Rows
pub mod Finding
mod Parting
pub mod Changing
pub mod Lengths
pub mod GoodRecords
pub mod Metas
mod TakenNumbers
mod Leaving
mod Failing
mod Loading
pub mod Blanking
mod Listing
mod Gathering
mod Staging
mod Bounding
