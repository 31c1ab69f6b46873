-- The pool and the tables that are looked at.
pub mod PartLemmas
pub mod SchemaLemmas
