pub mod BaseLemmas
pub mod BesideLemmas
pub mod FingerprintLemmas
pub mod FitnessLemmas
pub mod PageLemmas
pub mod SchemaLemmas
pub mod StreamNamesLemmas
pub mod ToldRowsLemmas
