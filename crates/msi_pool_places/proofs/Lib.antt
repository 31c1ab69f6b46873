-- The lemmas of this crate.
pub mod ReadEntriesLemmas
pub mod FirstFitLemmas
pub mod TakenLemmas
pub mod CountLemmas
pub mod RecountingLemmas
pub mod ForgettingLemmas
pub mod TextIndexLemmas
pub mod PlaceIndexLemmas
pub mod IndexedFitLemmas
pub mod PlaceLoopLemmas
pub mod JoinedTextsLemmas
pub mod TextJoiningLemmas
