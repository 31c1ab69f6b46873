-- What opening reads.
pub mod OpeningLemmas
pub mod OpenedLemmas
pub mod OpenedAgainLemmas
pub mod OpenStepLemmas
pub mod ReadingLemmas
pub mod HeldStreamsLemmas
pub mod FaultLemmas
