-- The words of this crate.
pub mod Operators
pub mod Tables
pub mod Reading
pub mod Nests
pub mod Grammar
pub mod Agreement
pub mod Printed
pub mod Places
-- The words of the crate below, which public clauses cite.
pub use Rattle.msi_query_tokens.specs.declared.token.Kind
pub use Rattle.msi_query_tokens.specs.declared.refusal.Expected
pub use Rattle.msi_query_tokens.specs.declared.refusal.ParseError
pub use Rattle.msi_query_tokens.specs.Tokens
pub use Rattle.msi_query_tokens.specs.Texts
pub use Rattle.msi_query_tokens.specs.Symbols
pub use Rattle.msi_query_tokens.specs.Input
