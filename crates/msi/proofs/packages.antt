-- Packages that are new or changed: what a call keeps of them.
pub mod PackageLemmas
pub mod ChangeLemmas
pub mod SummarySetLemmas
pub mod RecountingLemmas
pub mod FreshLemmas
pub mod CreatingLemmas
pub mod LeavingLemmas
pub mod TransformingLemmas
pub mod TransformMakingLemmas
pub mod TransformedLemmas
