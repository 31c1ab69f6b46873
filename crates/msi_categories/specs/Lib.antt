-- The words of this crate.
pub mod Numerals
pub mod Categories
pub mod CategoryRules
pub mod Times
pub mod LanguageRows
pub mod Languages
pub mod Spellings
