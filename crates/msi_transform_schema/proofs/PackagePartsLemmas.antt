-- The tables of a package, as its parts have them.
use Rattle.std.proofs.Common.{◌≡◌, ℕ, Bool, true, false, cond, List, [], ◌∷◌, Option, Some, None, is_some, refl, sym, ap, subst, ◌∙◌, option_map}
use Rattle.std.specs.Prelude.{bytes_eq, unwrap_or}
use Rattle.msi_pool.specs.Pool.{Pool}
use Rattle.msi_table_cells.specs.declared.cell.ValueRef.{ValueRef}
use Rattle.msi_table_cells.specs.TableCells.{TableCells}
use Rattle.msi_table_values.specs.Columns.{ColumnDef}
use Rattle.msi_table.specs.Tables.{TableDef}
use Rattle.msi_table.specs.Rows as rows
use Rattle.msi_database_changes.specs.Database.{Database, has_table, rows_of, table_at}
use Rattle.msi_database_storage.specs.Kept.{AreAsLong, database_kept, table_kept, table_kept_at}
use Rattle.msi_database_storage.specs.Streams.{Streams, stored_rows}
use Rattle.msi_database_storage.proofs.TableAtLemmas.{table_at_kept}

mapped_is_some : {A B : Type 0} (f : A → B) (o : Option A) → is_some (option_map f o) ≡ is_some o
mapped_is_some f None = refl
mapped_is_some f (Some x) = refl

-- a table that is found is as long as all are
long_where : (long : Bool) (name : List ℕ) (u : TableDef) (us : List TableDef) (t : TableDef) (b : Bool) → u.long ≡ long → (table_kept_at name us ≡ Some t → t.long ≡ long)
    → cond b (Some u) (table_kept_at name us) ≡ Some t → t.long ≡ long
long_where long name u us t true is others here = cc
long_where long name u us t false is others here = others here

found_long : (long : Bool) (name : List ℕ) (tables : List TableDef) (t : TableDef) → AreAsLong long tables → table_kept_at name tables ≡ Some t → t.long ≡ long
found_long long name [] t all here = cc
found_long long name (u ∷ us) t all here = long_where long name u us t (bytes_eq name u.name) all.0 (found_long long name us t all.1) here

abbrev pub columns_at : Database → List ℕ → List ColumnDef
columns_at d name = unwrap_or (option_map (λ t. t.columns) (table_at name d)) []

abbrev pub rows_at : Database → List ℕ → List (List ValueRef)
rows_at d name = unwrap_or (option_map rows_of (table_at name d)) []

module _ (pool : Pool) (tables : List TableDef) (streams : Streams) (name : List ℕ) where
  kept : (o : Option TableDef) → o ≡ table_kept_at name tables → table_at name (database_kept pool tables streams) ≡ option_map (λ t. (table_kept streams pool.long t).1) o
  kept o found = table_at_kept pool tables streams name ∙ ap (option_map (λ t. (table_kept streams pool.long t).1)) (sym found)

  pub known : is_some (table_kept_at name tables) ≡ has_table name (database_kept pool tables streams)
  known = sym (ap is_some (table_at_kept pool tables streams name) ∙ mapped_is_some (λ t. (table_kept streams pool.long t).1) (table_kept_at name tables))

  pub columns_found : (t : TableDef) → Some t ≡ table_kept_at name tables → t.columns ≡ columns_at (database_kept pool tables streams) name
  columns_found t found = sym (ap (λ (o : Option TableCells). unwrap_or (option_map (λ t. t.columns) o) []) (kept (Some t) found))

  pub no_columns : None ≡ table_kept_at name tables → [] ≡ columns_at (database_kept pool tables streams) name
  no_columns none = sym (ap (λ (o : Option TableCells). unwrap_or (option_map (λ t. t.columns) o) []) (kept None none))

  pub rows_found : (t : TableDef) (read : Option (List (List ValueRef))) → AreAsLong pool.long tables → Some t ≡ table_kept_at name tables
      → stored_rows streams t.long t.columns t.name ≡ read → unwrap_or read [] ≡ rows_at (database_kept pool tables streams) name
  rows_found t read as_long found is =
      let long : t.long ≡ pool.long = found_long pool.long name tables t as_long (sym found) in
      ap (λ (o : Option (List (List ValueRef))). unwrap_or o []) (sym is ∙ ap (λ (long : Bool). stored_rows streams long t.columns t.name) long)
      ∙ sym (ap (λ (o : Option TableCells). unwrap_or (option_map rows_of o) []) (kept (Some t) found))

  pub no_rows : None ≡ table_kept_at name tables → [] ≡ rows_at (database_kept pool tables streams) name
  no_rows none = sym (ap (λ (o : Option TableCells). unwrap_or (option_map rows_of o) []) (kept None none))

-- what reading gives, as the rows that there are
pub some_read : (columns : List ColumnDef) (o : Option (List (List ValueRef))) (r : rows.TableRows) → Some r ≡ option_map (rows.table_rows columns) o → o ≡ Some r.rows
some_read columns None r is = cc
some_read columns (Some read) r is = cc

pub none_read : (columns : List ColumnDef) (o : Option (List (List ValueRef))) → None ≡ option_map (rows.table_rows columns) o → o ≡ None
none_read columns None is = refl
none_read columns (Some read) is = cc
