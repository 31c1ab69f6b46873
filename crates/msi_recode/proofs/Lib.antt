-- The lemmas of this crate.
pub mod PageLemmas
pub mod TextsLemmas
pub mod HeadLemmas
pub mod WrittenLemmas
pub mod RecodedLemmas
pub mod SizeLemmas
pub mod SummaryLemmas
pub mod SummarySetLemmas
pub mod SummaryOnlyLemmas
pub mod PackageLemmas
pub mod PagesAlikeLemmas
pub mod LawsLemmas
pub mod OnceLemmas
pub mod CountingLemmas
pub mod SummaryErrorLemmas
pub mod SummaryOneLemmas
pub mod SummaryAlikeLemmas
