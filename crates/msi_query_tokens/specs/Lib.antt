-- The words of this crate.
pub mod Tokens
pub mod Refusals
pub mod Input
pub mod Cursor
pub mod Texts
pub mod Symbols
pub mod Names
