-- Columns in loops, and by their names.
use Rattle.std.proofs.Common.{◌≡◌, ℕ, ◌+◌, ◌<◌, Bool, true, refl, Some, Option, List, [], ◌∷◌, length, sym, ap, ◌∙◌, arith}
use Rattle.std.specs.Prelude.{bytes_eq, is_some, nat_lt}
use Rattle.std.specs.List.{list_any, position_from}
use Rattle.std.proofs.lemmas.List.Quantifiers.{position-Some}
use Rattle.std.proofs.lemmas.Iterator.Adapters.{position_from-zero}
use Rattle.std.proofs.lemmas.Bool.Decides.{nat_tests}
use Rattle.msi_base.proofs.BoolLemmas.{by_test}
use Rattle.msi_table_values.specs.Columns.{ColumnDef, begun_column, column_index, has_column}

-- a place is found exactly where one passes
found_from : {X : Type 0} (p : X → Bool) (i : ℕ) (xs : List X) → is_some (position_from p i xs) ≡ list_any p xs
found_from p i [] = refl
found_from p i (x ∷ xs) = by_test (p x) (λ t. rw t refl) (λ t. rw t (found_from p (i + 1) xs))

pub column_found : (columns : List ColumnDef) (name : List ℕ) (place : Option ℕ) → place ≡ column_index name columns → is_some place ≡ has_column name columns
column_found columns name place e = ap is_some (e ∙ position_from-zero (λ (c : ColumnDef). bytes_eq c.name name) columns) ∙ found_from (λ c. bytes_eq c.name name) 0 columns

-- a column has a value beside it
pub value_inside : (columns : List ColumnDef) (name : List ℕ) (count i : ℕ) → Some i ≡ column_index name columns → count ≡ length columns → nat_lt i count ≡ has_column name columns
value_inside columns name count i e wide =
    let inside : i < length columns = (position-Some (λ (c : ColumnDef). bytes_eq c.name name) columns i (begun_column []) (sym e)).0 in
    let below : nat_lt i count ≡ true = grind (arith, nat_tests) in
    below ∙ column_found columns name (Some i) e
