pub mod Commands
pub mod Wrapped
