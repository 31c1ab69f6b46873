-- The words of this crate.
pub mod ConditionBits
pub mod Transforms
pub mod ReadSteps
pub mod StoredPools
pub mod RecordsByTable
pub mod TransformFiles
pub mod TableStreams
pub mod WrittenTransforms
