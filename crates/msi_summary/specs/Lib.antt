-- The words of this crate.
pub mod Property
pub mod Summary
pub mod SummaryLaws
-- The words of the crates below, which public clauses cite.
pub use Rattle.msi_base.specs.declared.errors.ErrorKind
pub use Rattle.msi_base.specs.Results
pub use Rattle.msi_summary_properties.specs.declared.propset.OperatingSystem
pub use Rattle.msi_summary_properties.specs.declared.propset.PropertyValue
pub use Rattle.msi_summary_properties.specs.Properties
pub use Rattle.msi_summary_properties.specs.PropertyStream
pub use Rattle.msi_summary_properties.specs.PropertyWriting
pub use Rattle.msi_summary_properties.specs.PropertyLaws
