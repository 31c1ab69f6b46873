-- The words of this crate.
pub mod PoolWriting
pub mod PoolLaws
pub mod PoolPieces
-- The words of the crate below, which public clauses cite.
pub use Rattle.msi_pool_places.specs.Pool
pub use Rattle.msi_pool_places.specs.PoolReading
pub use Rattle.msi_pool_places.specs.FirstFit
pub use Rattle.msi_pool_places.specs.FirstFitLaws
pub use Rattle.msi_pool_places.specs.References
pub use Rattle.msi_pool_places.specs.Recounting
