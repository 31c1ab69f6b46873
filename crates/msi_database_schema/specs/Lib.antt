-- The words of this crate.
pub mod Keys
pub mod System
pub mod Description
pub mod Schema
pub mod ListedTables
pub mod RowOrders
pub mod Copies
