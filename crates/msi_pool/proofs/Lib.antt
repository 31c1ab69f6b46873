-- The lemmas of this crate.
pub mod PoolRows
pub mod ForgottenLemmas
pub mod PoolWritingLemmas
pub mod PoolReadBackLemmas
pub mod PoolPiecesLemmas
pub mod ReadTextsLemmas
pub mod ReadStreamLemmas
pub mod ReadFaultLemmas
-- The lemmas of the crates below, which proofs above cite.
pub use Rattle.msi_pool_places.proofs.TakenLemmas
pub use Rattle.msi_pool_places.proofs.RecountingLemmas
pub use Rattle.msi_pool_places.proofs.FirstFitLemmas
