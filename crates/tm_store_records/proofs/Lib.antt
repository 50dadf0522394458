pub mod Storing
pub mod Leaving
mod Laying
mod Tagging
pub mod Retagging
pub mod NextKeyLemmas
mod Reading
pub mod Placed
pub mod Dating
pub mod Stepping
pub mod LocationLemmas
pub mod ArrivalLemmas
pub mod Walking
pub mod Rooting
pub mod Passing
pub mod Ruling
pub mod Lowering
pub mod Standing
pub mod Noding
pub mod Graphing
pub mod Linking
pub mod Ordered
pub mod Least
pub mod Telling
pub mod Sizing
pub mod Drafted
