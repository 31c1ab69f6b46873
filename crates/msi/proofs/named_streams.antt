-- Streams of no table: their names, and the calls on them.
pub mod StreamCallLemmas
pub mod StreamNameLemmas
pub mod StreamRefusalLemmas
pub mod StreamWriteLemmas
pub mod OtherStreamLemmas
pub mod KeyNameLemmas
pub mod OpenStreamLemmas
