-- Chains of sectors: their bytes, and steps along them.
pub mod RunLemmas
pub mod SectorBytesLemmas
pub mod StepLemmas
pub mod StepRows
