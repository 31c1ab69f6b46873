-- The words of this crate.
pub mod Applying
pub mod AnewInHand
pub mod LeftInHand
pub mod ExpectedStreams
