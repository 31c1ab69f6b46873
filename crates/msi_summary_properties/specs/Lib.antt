-- The words of this crate.
pub mod Properties
pub mod PropertyStream
pub mod PropertyWriting
pub mod PropertyLaws
pub mod Reading
pub mod HeaderView
pub mod PropertyTexts
pub mod SharedTexts
