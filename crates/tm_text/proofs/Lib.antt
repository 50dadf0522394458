pub mod WordLemmas
pub mod OneWordLemmas
pub mod OneMeaningLemmas
pub mod ScriptLemmas
pub mod PrintedLemmas
pub mod BoundsLemmas
pub mod WrittenLemmas
