-- Reading the streams that are needed.
pub mod CountedLemmas
pub mod HeldNamesLemmas
pub mod LoadedLemmas
