-- Soundness: rows that fit and describe the tables, and places that are named.
pub mod SoundLemmas
pub mod FitLemmas
pub mod DescribedLemmas
pub mod KindsLemmas
pub mod GivenBackLemmas
pub mod NamedPlacesLemmas
pub mod SchemaLemmas
