-- The file sector by sector, and what each is filled with.
pub mod SectorLemmas
pub mod SectorsHeldLemmas
pub mod FileSectorLemmas
pub mod RegionLemmas
pub mod RestLemmas
pub mod UnitLemmas
pub mod HeaderLemmas
pub mod ImageLemmas
pub mod TableLemmas
pub mod IndexLemmas
pub mod FailedLemmas
