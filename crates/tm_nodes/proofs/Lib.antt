pub mod Formats
pub mod Numbers
pub mod Lengths
pub mod Fields
mod Places
mod Orders
mod Parts
mod LeafLemmas
mod KindLemmas
pub mod ItemLemmas
mod NodeLemmas
pub mod RowLemmas
pub mod HeadLemmas
mod Loops
