pub mod CoverLemmas
mod ById
mod ByPath
mod Keeping
mod KeepableLemmas
