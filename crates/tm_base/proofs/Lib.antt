pub mod Facts
pub mod MomentLemmas
pub mod PathLemmas
pub mod DayLemmas
