-- The words of this crate.
pub mod Claims
pub mod Walks
pub mod Outcomes
pub mod Counts
pub mod Reading
pub mod Paths
