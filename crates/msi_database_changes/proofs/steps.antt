-- The steps of a change: what each stores, leaves and refuses.
pub mod InTurnLemmas
pub mod TurnLemmas
pub mod TracksLemmas
pub mod UntouchedTableLemmas
pub mod StoredLemmas
pub mod ValuesLemmas
pub mod PutBackLemmas
pub mod EarlyLemmas
pub mod RefusedLemmas
pub mod AtWidthLemmas
