-- The lemmas of this crate.
pub mod LendingLemmas
pub mod RunningLemmas
pub mod RunLemmas
pub mod RecountingLemmas
pub mod ReplayedLemmas
pub mod StreamTakesLemmas
pub mod DeviceLemmas
pub mod StreamLemmas
pub mod SummaryLemmas
pub mod SentLemmas
pub mod TakenLemmas
pub mod TransformedLemmas
pub mod StreamsLemmas
pub mod PackageLemmas
pub mod PagesLemmas
