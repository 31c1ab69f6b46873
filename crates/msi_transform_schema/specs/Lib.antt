-- The words of this crate.
pub mod TablesInHand
pub mod SchemaChanges
pub mod InHand
pub mod SchemaApplying
