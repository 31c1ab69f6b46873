-- Which package some bytes mean.
pub mod MeaningLemmas
pub mod OneMeaningLemmas
pub mod AgreementLemmas
pub mod ShownTextsLemmas
pub mod ShownPoolLemmas
pub mod PoolLemmas
