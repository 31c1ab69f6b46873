-- The lemmas of this crate.
pub mod chains
pub mod entry_names
pub mod parts
