-- The lemmas of this crate.
pub mod ValueLemmas
pub mod StepLemmas
pub mod HeaderLemmas
pub mod SpelledSetLemmas
pub mod PairsLoopLemmas
pub mod ValuesLoopLemmas
pub mod SetPartsLemmas
pub mod PlainValueLemmas
pub mod SortedIdsLemmas
pub mod PutInLemmas
pub mod SetReadLemmas
pub mod PlainSectionLemmas
pub mod ReadBackLemmas
pub mod PropertiesLemmas
pub mod KeptSetLemmas
mod PropertiesRows
mod PropertyStreamRows
pub mod WritableLemmas
pub mod PageCutLemmas
pub mod SharedTextsLemmas
pub mod WrittenTextsLemmas
