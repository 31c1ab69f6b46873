-- The words of this crate.
pub mod Characters
pub mod Archives
pub mod Places
pub mod Lists
pub mod Fields
pub mod TypeFields
pub mod TextArchives
pub mod Reading
pub mod Writing
pub mod WrongPlaces
pub mod ArchiveLaws
pub mod CsvRows
pub mod JsonRows
pub mod RowLaws
