-- References that widen, and calls at both widths.
pub mod WideningLemmas
pub mod WideningCallLemmas
pub mod WideRefusalLemmas
pub mod RowsAtBothWidthsLemmas
pub mod TablesAtBothWidthsLemmas
pub mod CallAtBothWidthsLemmas
pub mod CreatingAtBothWidthsLemmas
pub mod ColumnAtBothWidthsLemmas
pub mod LengthenedCallLemmas
