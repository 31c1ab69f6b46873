-- The lemmas of this crate.
pub mod row_changes
pub mod table_changes
pub mod describing
pub mod row_keys
pub mod text_counts
pub mod soundness
pub mod steps
