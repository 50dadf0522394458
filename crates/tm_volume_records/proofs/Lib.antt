pub mod Slots
pub mod Entering
mod Lengths
pub mod Keys
pub mod Firsts
pub mod Numbering
pub mod Heading
pub mod Passing
pub mod Surveying
pub mod FixedLists
pub mod FixedRules
