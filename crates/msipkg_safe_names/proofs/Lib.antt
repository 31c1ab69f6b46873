-- The lemmas of this crate.
pub mod GivenLemmas
pub mod SafeNamesLemmas
pub mod SafeNamesRows
pub mod SpellingLemmas
pub mod TakenLemmas
