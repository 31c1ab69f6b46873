-- The words of transforms and of applying them, which public clauses cite.
pub use Rattle.msi_transform.specs.ConditionBits
pub use Rattle.msi_transform.specs.StoredPools
pub use Rattle.msi_transform.specs.TransformFiles
pub use Rattle.msi_transform.specs.Transforms
pub use Rattle.msi_transform.specs.WrittenTransforms
pub use Rattle.msi_transform_rows.specs.RecordRefusals
pub use Rattle.msi_transform_rows.specs.RowChanges
pub use Rattle.msi_transform_rows.specs.RowStreams
pub use Rattle.msi_transform_rows.specs.TableRecords
pub use Rattle.msi_transform_schema.specs.SchemaApplying
pub use Rattle.msi_transform_schema.specs.SchemaChanges
pub use Rattle.msi_transform.specs.declared.conditions.ErrorConditions
pub use Rattle.msi_transform_applying.specs.Applying
pub use Rattle.msi_database.specs.Transforming
