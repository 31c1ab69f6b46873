-- Names of storages and streams.
pub mod SharedNamesLemmas
pub mod NamedBytesLemmas
pub mod NamedSizesLemmas
