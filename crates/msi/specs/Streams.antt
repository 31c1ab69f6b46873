-- The words of streams that are listed, read and written, which public clauses cite.
pub use Rattle.msi_streams.specs.Cursor
pub use Rattle.msi_streams.specs.Refusals
pub use Rattle.msi_streams.specs.Listing
