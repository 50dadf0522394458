pub mod WalkSteps
pub mod ItemLemmas
