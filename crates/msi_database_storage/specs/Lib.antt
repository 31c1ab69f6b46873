-- The words of this crate.
pub mod Streams
pub mod StreamNames
pub mod Widening
pub mod Kept
pub mod Storing
pub mod Naming
pub mod Agreement
pub mod Reading
