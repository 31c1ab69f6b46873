-- The words of this crate.
pub mod Texts
pub mod Views
pub mod KeySets
pub mod Setting
pub mod Storing
pub mod Database
pub mod Changes
pub mod Widening
pub mod Insert
pub mod Update
pub mod Delete
pub mod Create
pub mod Drop
pub mod AddColumn
pub mod Laws
pub mod RowUpdates
pub mod Recounting
