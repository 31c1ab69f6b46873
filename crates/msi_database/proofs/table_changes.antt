-- Tables that are created and dropped.
pub mod CreatingLemmas
pub mod CreatingCallLemmas
pub mod DroppingCallLemmas
pub mod TableCallLemmas
pub mod TableListLemmas
pub mod SystemRowsLemmas
pub mod ColumnRowsLemmas
pub mod TableChangeStepsLemmas
