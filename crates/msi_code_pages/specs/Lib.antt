-- The words of this crate.
pub mod Page
pub mod Tables
pub mod Sequences
pub mod Reading
pub mod Spelling
