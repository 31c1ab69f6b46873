-- Which database parts that are kept make up: where streams spell a database, its pool and its tables' columns are all that is kept of it beside them.
use Rattle.std.proofs.Common.{◌≡◌, ℕ, Bool, true, false, List, [], ◌∷◌, map, Option, Some, None, refl, sym, ap, subst, ◌∙◌, option_map, is_some}
use Rattle.std.specs.Prelude.{MatchBool, option_and_then, unwrap_or, if◌then◌else◌}
use Rattle.std.specs.List.{AllByRecursion}
use Rattle.std.specs.FinMap.{find}
use Rattle.std.proofs.lemmas.Option.{none-some}
use Rattle.msi_base.specs.Lists.{list_cmp}
use Rattle.msi_pool.specs.Pool.{Pool, Place}
use Rattle.msi_table_cells.specs.declared.cell.ValueRef.{ValueRef}
use Rattle.msi_table_values.specs.declared.value.Value.{Value}
use Rattle.msi_table_cells.specs.CellValues.{row_values}
use Rattle.msi_table_values.specs.Columns.{ColumnDef}
use Rattle.msi_table.specs.Tables.{TableDef}
use Rattle.msi_table_cells.specs.TableCells.{TableCells}
use Rattle.msi_database_schema.specs.System.{validation_name, validation_columns}
use Rattle.msi_database_schema.specs.Schema.{SchemaRows, schema_of}
use Rattle.msi_database_changes.specs.Database.{Database, Tables, has_table, columns_by_name, is_sound}
use Rattle.msi_database_storage.specs.Streams.{Streams, stored_rows}
use Rattle.msi_database_storage.specs.Kept.{AreAsLong, Kept, table_kept, table_kept_at, unlisted_kept, database_kept, kept_of, schema_listed}
use Rattle.msi_database.specs.Keeping.{AreParts, IsKeptDatabase}
use Rattle.msi_database_storage.specs.Agreement.{DatabaseIs, schema_in}
use Rattle.msi_database.proofs.keeping.TablesKeptLemmas.{has_table_kept}

pub schema_kept : (pool : Pool) (tables : List TableDef) (streams : Streams) → columns_by_name (database_kept pool tables streams) ≡ schema_listed tables
schema_kept pool [] streams = refl
schema_kept pool (t ∷ ts) streams = ap (λ (l : List (List ℕ × List ColumnDef)). (t.name, t.columns) ∷ l) (schema_kept pool ts streams)

-- THE DATABASE OF PARTS

module _ (streams : Streams) (long : Bool) where
  abbrev table_of : List ℕ × List ColumnDef → List ℕ × TableCells
  table_of s = (s.0, record { columns = s.1; rows = stored_rows streams long s.1 s.0 })

  kept_tables : (tables : List TableDef) → map (table_kept streams long) tables ≡ map table_of (schema_listed tables)
  kept_tables [] = refl
  kept_tables (t ∷ ts) = ap (λ (l : Tables). table_kept streams long t ∷ l) (kept_tables ts)

  own_tables : (ts : Tables) → AllByRecursion (λ t. t.1.rows ≡ stored_rows streams long t.1.columns t.0) ts → map table_of (map (λ t. (t.0, t.1.columns)) ts) ≡ ts
  own_tables [] h = refl
  own_tables (t ∷ ts) h = λ i. (t.0, record { columns = t.1.columns; rows = sym h.0 i }) ∷ own_tables ts h.1 i

unlisted_from : (b : Bool) (o : Option (List (List ValueRef))) (rows : List (List ValueRef)) → MatchBool b (rows ≡ []) (o ≡ Some rows) → (if b then [] else unwrap_or o []) ≡ rows
unlisted_from true o rows h = sym h
unlisted_from false o rows h = ap (λ (o : Option (List (List ValueRef))). unwrap_or o []) h

pub parts_make : (streams : Streams) (d : Database) (tables : List TableDef) → DatabaseIs streams d → schema_listed tables ≡ columns_by_name d → database_kept d.pool tables streams ≡ d
parts_make streams d tables h same =
    let own : map (table_kept streams d.pool.long) tables ≡ d.tables = kept_tables streams d.pool.long tables ∙ ap (map (table_of streams d.pool.long)) same ∙ own_tables streams d.pool.long d.tables h.tables in
    let listed : is_some (table_kept_at validation_name tables) ≡ has_table validation_name d =
    sym (has_table_kept d.pool tables streams validation_name) ∙ ap (λ (ts : Tables). is_some (find list_cmp validation_name ts)) own in
    let unlisted : unlisted_kept streams d.pool.long tables ≡ d.unlisted_validation =
    ap (λ b. if b then [] else unwrap_or (stored_rows streams d.pool.long validation_columns validation_name) []) listed
    ∙ unlisted_from (has_table validation_name d) (stored_rows streams d.pool.long validation_columns validation_name) d.unlisted_validation h.unlisted in
    λ i. record { pool = d.pool; tables = own i; unlisted_validation = unlisted i }

-- WHERE THE SYSTEM TABLES DESCRIBE THE TABLES, THE STREAMS SPELL THEM

pub each_kept : (streams : Streams) (long : Bool) (tables : List TableDef) → AllByRecursion (λ t. t.1.rows ≡ stored_rows streams long t.1.columns t.0) (map (table_kept streams long) tables)
each_kept streams long [] = tt
each_kept streams long (t ∷ ts) = (refl, each_kept streams long ts)

-- rows that describe are rows that can be read
readable_last : {X : Type 0} (f : SchemaRows → Option X) (places : List Place) (tables columns : Option (List (List Value))) (validation : Option (List (List ValueRef))) (x : X)
    → option_and_then f (option_and_then (λ t. option_and_then (λ c. option_map (λ v. record { tables = t; columns = c; validation = v }) (option_map (map (row_values places)) validation)) columns) tables) ≡ Some x
    → validation ≡ Some (unwrap_or validation [])
readable_last f places None columns validation x e = absurd (none-some x e)
readable_last f places (Some t) None validation x e = absurd (none-some x e)
readable_last f places (Some t) (Some c) None x e = absurd (none-some x e)
readable_last f places (Some t) (Some c) (Some v) x e = refl

unlisted_by : (b : Bool) (o : Option (List (List ValueRef))) → o ≡ Some (unwrap_or o []) → MatchBool b ((if b then [] else unwrap_or o []) ≡ []) (o ≡ Some (if b then [] else unwrap_or o []))
unlisted_by true o h = refl
unlisted_by false o h = h

pub parts_spelled : (pool : Pool) (tables : List TableDef) (streams : Streams) → schema_in streams pool ≡ Some (schema_listed tables) → DatabaseIs streams (database_kept pool tables streams)
parts_spelled pool tables streams e = record {
  tables = each_kept streams pool.long tables;
  unlisted = subst (λ b. MatchBool b (unlisted_kept streams pool.long tables ≡ []) (stored_rows streams pool.long validation_columns validation_name ≡ Some (unlisted_kept streams pool.long tables)))
      (sym (has_table_kept pool tables streams validation_name))
      (unlisted_by (is_some (table_kept_at validation_name tables)) (stored_rows streams pool.long validation_columns validation_name)
      (readable_last schema_of pool.places _ _ (stored_rows streams pool.long validation_columns validation_name) (schema_listed tables) e));
  schema = e ∙ ap Some (sym (schema_kept pool tables streams));
}

-- ANY KEPT DATABASE WHOSE TABLES ARE LISTED

pub kept_parts : (k : Kept) (tables : List TableDef) → IsKeptDatabase k → is_sound k.database ≡ true → schema_listed tables ≡ columns_by_name k.database → AreAsLong k.database.pool.long tables
    → AreParts k k.database.pool tables k.streams
kept_parts k tables kept sound listed as_long =
    let made : database_kept k.database.pool tables k.streams ≡ k.database = parts_make k.streams k.database tables kept.spelled listed in
    let same : kept_of k.database.pool tables k.streams ≡ k = λ i. record { database = made i; streams = k.streams } in (
      same,
      record {
        kept = subst IsKeptDatabase (sym same) kept;
        as_long = as_long;
        known = sym (ap is_sound made ∙ sound);
      },
    )
