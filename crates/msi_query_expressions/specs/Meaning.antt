-- Which column a name means.
use Rattle.std.specs.Prelude.{ℕ, Bool, false, List, [], ◌∷◌, ◌++◌, Option, Some, None, ◌==◌, ◌&&◌, ◌||◌, bytes_eq}
use Rattle.std.specs.Prelude.{filter, if◌then◌else◌}
use Rattle.msi_table_values.specs.Columns.{ColumnDef, has_column}
use Rattle.msi_query_expressions.specs.Expressions.{Expression, literal, column, unary, binary, both, either}

-- whether a text ends in a dot and a name
abbrev pub is_behind_dot : List ℕ → List ℕ → Bool
is_behind_dot name [] = false
is_behind_dot name (b ∷ text) = (b == 46 && bytes_eq text name) || is_behind_dot name text

-- whether a name is that of a column with its table's in front, or a column's without the table's in front of it
abbrev pub is_called : List ℕ → List ℕ → ColumnDef → Bool
is_called table name c = bytes_eq name (table ++ 46 ∷ c.name) || is_behind_dot name c.name

abbrev pub only : List ColumnDef → Option ColumnDef
only (c ∷ []) = Some c
only _ = None

abbrev pub name_or : List ℕ → Option ColumnDef → List ℕ
name_or name None = name
name_or name (Some c) = c.name

-- the name of the column that a name means: itself where a column has it, else that of the only one that is called so
abbrev pub meant : List ℕ → List ColumnDef → List ℕ → List ℕ
meant table columns name =
    if has_column name columns then name else name_or name (only (filter (is_called table name) columns))

-- an expression with other names for its columns
abbrev pub renamed : (List ℕ → List ℕ) → Expression → Expression
renamed f (literal v) = literal v
renamed f (column n) = column (f n)
renamed f (unary op e) = unary op (renamed f e)
renamed f (binary op l r) = binary op (renamed f l) (renamed f r)
renamed f (both l r) = both (renamed f l) (renamed f r)
renamed f (either l r) = either (renamed f l) (renamed f r)
