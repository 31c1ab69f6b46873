-- What queries read of the tables, what the streams that were read show of them, and what opening the package shows.
pub mod RelationLemmas
pub mod SeenLemmas
pub mod NamedTextLemmas
pub mod OpenedLemmas
pub mod WholeLemmas
pub mod TakenLemmas
