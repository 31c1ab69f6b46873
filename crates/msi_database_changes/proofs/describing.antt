-- Rows of the system tables, and the tables that they describe.
pub mod DescribingLemmas
pub mod DescriptionLemmas
pub mod ChangedDescriptionLemmas
pub mod SchemaKeptLemmas
pub mod ShownTablesLemmas
pub mod ShownChangesLemmas
pub mod AlikeColumnLemmas
pub mod KindsLemmas
pub mod KindsKeptLemmas
pub mod NewColumnLemmas
