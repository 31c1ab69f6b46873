-- The words of this crate.
pub mod Row
pub mod Refusals
pub mod Values
pub mod Columns
pub mod ValidValues
pub mod Views
pub mod Utf8Texts
pub mod OrderLaws
pub use Rattle.msi_categories.specs.declared.category.Category
pub use Rattle.msi_categories.specs.Spellings
pub use Rattle.msi_categories.specs.Numerals
pub use Rattle.msi_categories.specs.CategoryRules
