-- The words of this crate.
pub mod Sent
pub mod Told
pub mod Taken
pub mod PackageLaws
