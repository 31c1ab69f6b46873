-- The words of this crate.
pub mod Fingerprints
pub mod MakingRefusals
pub mod Names
pub mod Pair
