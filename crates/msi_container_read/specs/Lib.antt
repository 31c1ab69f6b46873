-- The words of this crate.
pub mod Outlines
pub mod Steps
pub mod Listings
pub mod Runs
pub mod Storages
pub mod StorageLists
