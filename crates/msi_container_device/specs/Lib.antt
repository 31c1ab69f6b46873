-- The words of this crate.
pub mod Held
pub mod Faults
pub mod Buffering
pub mod HeldLaws
