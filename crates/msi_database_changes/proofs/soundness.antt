-- Soundness, and rows that fit their columns.
pub mod SoundLemmas
pub mod RegularLemmas
pub mod FitTestLemmas
pub mod FitsKeptLemmas
pub mod PutFitsLemmas
pub mod LawLemmas
