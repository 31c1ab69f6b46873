-- What the grammar reads in an image.
pub mod ApartLemmas
pub mod DirectoryReadLemmas
pub mod EntryReadLemmas
pub mod LayoutHeldLemmas
pub mod MiniReadLemmas
pub mod PlanWrittenLemmas
pub mod SpelledPartsLemmas
pub mod StreamsReadLemmas
