-- The words of this crate.
pub mod TextPages
pub mod Readers
pub mod Errors
pub mod PoolRecoding
pub mod PoolReading
pub mod SummaryRecoding
pub mod SummaryReading
pub mod Recoding
pub mod RecodingLaws
