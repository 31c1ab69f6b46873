-- What holds of products.
use Rattle.std.specs.Prelude.{◌≡◌, ℕ, Bool, false, List, [], ◌∷◌, Option, Some, Result, Ok, Err, bytes_eq}
use Rattle.std.specs.List.Sorted.{IsPermutation}
use Rattle.msi_base.specs.declared.errors.ErrorKind.{ErrorKind}
use Rattle.msi_query_expressions.specs.declared.joins.JoinKind.TheVariants.{Inner}
use Rattle.msi_query_expressions.specs.Expressions.{Expression}
use Rattle.msi_query.specs.Queries.{Side, join, no_clauses, product, table}
use Rattle.msi_query.specs.Selection.{Relation, TableValues, relation_of}

-- the same columns and the same rows, in some order, or the same refusal
abbrev pub HaveSameRows : Result Relation ErrorKind → Result Relation ErrorKind → Type 0
HaveSameRows (Ok r) (Ok s) = (r.columns ≡ s.columns) × IsPermutation r.rows s.rows
HaveSameRows (Ok r) (Err k) = ⊥
HaveSameRows (Err k) (Ok s) = ⊥
HaveSameRows (Err k) (Err m) = k ≡ m

-- a table whose columns go by its own name
abbrev pub own_side : List ℕ → Side
own_side name = record { table = name; name = name }

-- a product of two tables under a condition has the rows of their join by that condition
abbrev pub ProductsAreJoins : Type 0
ProductsAreJoins = (tables : List ℕ → Option TableValues) (left right : List ℕ) (on : Expression)
    → bytes_eq left right ≡ false
    → HaveSameRows
    (relation_of tables (product (own_side left ∷ own_side right ∷ []) (record no_clauses { condition = Some on })))
    (relation_of tables (join Inner (table left no_clauses) (table right no_clauses) on no_clauses))
