-- The lemmas of this crate.
pub mod directories
pub mod placing
pub mod reading_back
pub mod sectors
