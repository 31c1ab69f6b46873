-- The words of this crate.
pub mod Looking
pub mod Laws
