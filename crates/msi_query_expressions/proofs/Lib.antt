-- The lemmas of this crate.
pub mod OperatorRows
pub mod FoldingLemmas
pub mod BuiltLemmas
pub mod TreeLemmas
pub mod NamesLemmas
pub mod MeaningLemmas
pub mod EquatedLemmas
pub mod EvaluationRows
pub mod ReaderLemmas
pub mod TokenLemmas
pub mod UnambiguousLemmas
pub mod PrintingRows
