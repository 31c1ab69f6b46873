-- The lemmas of this crate.
pub mod StreamAtLemmas
pub mod TableAtLemmas
pub mod SoundnessLemmas
pub mod NamingLemmas
pub mod ListingLemmas
pub mod CopyingLemmas
pub mod ReadLemmas
pub mod ReadingLemmas
pub mod PassedLemmas
pub mod MapLemmas
pub mod StreamLemmas
pub mod StoredLemmas
pub mod EditLemmas
