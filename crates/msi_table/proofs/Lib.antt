-- The lemmas of this crate.
mod KeyLemmas
mod PlaceLemmas
mod EachLemmas
mod LawLemmas
mod KeyedLemmas
mod AppliedLemmas
mod NeedLemmas
pub mod RoundTripLemmas
pub mod PiecesLemmas
pub mod ReadBackLemmas
pub mod PlacesLemmas
pub mod ReadRowsLemmas
pub mod CensusLemmas
pub mod GivenLemmas
pub mod LongRowsLemmas
pub mod WorkedRows
