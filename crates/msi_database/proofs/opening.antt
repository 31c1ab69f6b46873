-- Databases that are read of streams, and new ones.
pub mod OpenedLemmas
pub mod ReadRowsLemmas
pub mod ReadDatabaseLemmas
pub mod ShownTextLemmas
pub mod FreshLemmas
pub mod FreshKeptLemmas
