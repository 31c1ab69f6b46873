-- Calls that change rows, and what a call is accepted, refused or ended by.
pub mod RowCallLemmas
pub mod RowChangeLemmas
pub mod InsertCallLemmas
pub mod UpdateCallLemmas
pub mod AcceptedCallLemmas
pub mod RefusedCallLemmas
pub mod ColumnCallLemmas
pub mod EarlyCallLemmas
pub mod EarlyTransformLemmas
pub mod ChangingLemmas
pub mod FinishedChangeLemmas
pub mod CanStoreLemmas
pub mod StorableLemmas
