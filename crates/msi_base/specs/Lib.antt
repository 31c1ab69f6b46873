-- The words of this crate.
pub mod Errors
pub mod Results
pub mod Numbers
pub mod Lists
pub mod PageTables
pub mod Pages
pub mod Faults
pub mod Refusals
pub mod Buffers
