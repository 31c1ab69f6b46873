-- The words of this crate.
pub mod TransformsInTurn
