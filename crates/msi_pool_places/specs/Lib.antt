-- The words of this crate.
pub mod Pool
pub mod PoolReading
pub mod PoolIndexes
pub mod FirstFit
pub mod FirstFitLaws
pub mod Recounting
pub mod References
pub mod Numbers
pub mod SharedTexts
pub mod JoinedTexts
pub mod TextJoining
pub mod TextIndexes
pub mod Indexing
