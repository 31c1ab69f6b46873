-- The tables that FROM lists.
use Rattle.std.specs.Prelude.{ℕ, Bool, true, false, List, [], ◌∷◌, Option, Some, None, unwrap_or, is_some}
use Rattle.msi_query.specs.Queries.{Side}

-- a table, and the name of its own that it has there, if any
pub record FromTable : Type 0 where
  pub table : List ℕ
  pub own : Option (List ℕ)

-- as a table of a product, where its columns go by the table's name if it has none of its own
abbrev pub side_of : FromTable → Side
side_of from = record { table = from.table; name = unwrap_or from.own from.table }

-- two tables or more, or one with a name of its own
abbrev pub make_product : List FromTable → Bool
make_product [] = false
make_product (from ∷ []) = is_some from.own
make_product _ = true

abbrev pub without_own : List ℕ → Option (List ℕ) → Option (List ℕ)
without_own table None = Some table
without_own table (Some own) = None

-- the name of a table that stands alone, with no name of its own
abbrev pub alone : List FromTable → Option (List ℕ)
alone (from ∷ []) = without_own from.table from.own
alone _ = None
