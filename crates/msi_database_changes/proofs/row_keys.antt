-- Keys of rows: their order, and that no two rows share one.
pub mod DistinctLemmas
pub mod KeyPairLemmas
pub mod KeySetLemmas
pub mod KeysKeptLemmas
pub mod KeysLemmas
pub mod TableKeysLemmas
pub mod ViewLemmas
pub mod LeadingNumbersLemmas
