-- The lemmas of this crate.
pub mod PresentLemmas
pub mod SequencesLemmas
pub mod ReadingLemmas
pub mod SpellingLemmas
pub mod IndexLemmas
pub mod LawsLemmas
