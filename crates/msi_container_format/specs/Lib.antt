-- The words of this crate.
pub mod Format
pub mod Bytes
pub mod HeldBytes
pub mod Chains
pub mod Trees
pub mod Names
pub mod Streams
pub mod Lending
pub mod Container
pub mod StreamNames
pub mod StreamNameLaws
