-- Tables of a container over a source, which are copied part by part.
pub mod AnswerLemmas
pub mod DifatLemmas
pub mod LoadLemmas
pub mod LookLemmas
pub mod StandLemmas
