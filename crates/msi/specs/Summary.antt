-- The words of property sets and the summary information, which public clauses cite.
pub use Rattle.msi_summary.specs.Summary
pub use Rattle.msi_summary.specs.SummaryLaws
pub use Rattle.msi_summary.specs.OperatingSystem
pub use Rattle.msi_summary.specs.PropertyValue
pub use Rattle.msi_summary.specs.Properties
pub use Rattle.msi_summary.specs.PropertyStream
pub use Rattle.msi_summary.specs.PropertyWriting
pub use Rattle.msi_summary.specs.PropertyLaws
pub use Rattle.msi_summary.specs.declared.property.SummaryProperty
