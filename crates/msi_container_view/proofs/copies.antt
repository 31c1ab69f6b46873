-- What the grammar reads over a file's sectors, it reads over their copies.
pub mod HeaderCopyLemmas
pub mod TableCopyLemmas
pub mod DirectoryCopyLemmas
pub mod TreeCopyLemmas
pub mod PartsCopyLemmas
