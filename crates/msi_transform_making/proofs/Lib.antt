pub mod AlikeLemmas
pub mod LeftOutLemmas
pub mod LeftOutSteps
pub mod MakingRows
pub mod MaskLemmas
pub mod SameTextsLemmas
pub mod SideLemmas
pub mod StoringLemmas
