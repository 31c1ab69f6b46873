-- The words of expressions and queries, which public clauses cite.
pub use Rattle.msi_query.specs.Queries
pub use Rattle.msi_query.specs.QueryCode
pub use Rattle.msi_query.specs.QueryTrees
pub use Rattle.msi_query.specs.QueryTexts
pub use Rattle.msi_query.specs.Utf8Queries
pub use Rattle.msi_query.specs.JoinKind
pub use Rattle.msi_query.specs.Joins
pub use Rattle.msi_query.specs.UnaryOp
pub use Rattle.msi_query.specs.BinaryOp
pub use Rattle.msi_query.specs.OperatorValues
pub use Rattle.msi_query.specs.OperatorTexts
pub use Rattle.msi_query.specs.Expressions
pub use Rattle.msi_query.specs.ExpressionCode
pub use Rattle.msi_query.specs.Evaluation
pub use Rattle.msi_query.specs.Conditions
pub use Rattle.msi_query.specs.Equated
pub use Rattle.msi_query.specs.Folding
pub use Rattle.msi_query.specs.Names
pub use Rattle.msi_query.specs.Trees
pub use Rattle.msi_query.specs.RowFilters
pub use Rattle.msi_query.specs.Printing
pub use Rattle.msi_query.specs.Vocabulary
pub use Rattle.msi_query.specs.Utf8Expressions
pub use Rattle.msi_base.specs.Refusals
pub use Rattle.msi_database.specs.Selection
pub use Rattle.msi_database.specs.SelectedRows as Rows
