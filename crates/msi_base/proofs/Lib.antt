-- The lemmas of this crate.
pub mod BoolLemmas
pub mod OptionLemmas
pub mod ResultLemmas
pub mod RefusalLemmas
pub mod OrderingLemmas
pub mod ListLemmas
pub mod ReadFieldLemmas
pub mod PageTablesLemmas
pub mod PagesLemmas
pub mod SpelledTextsLemmas
pub mod ReadLemmas
pub mod WriteLemmas
pub mod NumberLemmas
pub mod PartLemmas
