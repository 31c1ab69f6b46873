-- Names of storages and streams.
pub mod OwnNameLemmas
pub mod MapNamesLemmas
