-- The lemmas of this crate.
pub mod ByteLemmas
pub mod Utf16Lemmas
pub mod SpelledUnitsLemmas
pub mod NamesLemmas
pub mod StreamsLemmas
pub mod PlanOnceLemmas
pub mod TextLemmas
pub mod PackingLemmas
pub mod PackedNamesLemmas
pub mod UnpackingLemmas
pub mod AcceptedNamesLemmas
pub mod SpecialNamesLemmas
pub mod StreamNameRows
pub mod CharacterValueLemmas
pub mod EncodedUnitsLemmas
