-- Worked examples, by computation.
pub mod CallRows
pub mod PackageRows
pub mod RangeRows
pub mod SchemaRows
