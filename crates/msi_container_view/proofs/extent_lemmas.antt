-- Streams as pieces of a file.
pub mod ExtentLemmas
pub mod MiniRunLemmas
pub mod SectorRunLemmas
pub mod PartLemmas
