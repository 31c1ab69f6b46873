-- The rows of a database describe the tables that it has, also after one was created.
use Rattle.std.proofs.Common.{◌≡◌, ℕ, true, false, List, [], ◌∷◌, ◌++◌, refl, sym, ap, ◌∙◌, Some, None}
use Rattle.std.specs.Prelude.{Option, option_map, option_and_then, unwrap_or, is_some, map, if◌then◌else◌, bytes_eq, IsPermutation}
use Rattle.std.specs.Option.{option_map_or}
use Rattle.std.specs.FinMap.{find}
use Rattle.std.specs.FinMap.Entries.{find-put}
use Rattle.std.specs.Cmp.{nat_cmp_total}
use Rattle.std.specs.Cmp.Lexicographic.{lists_total}
use Rattle.std.proofs.lemmas.Slice.Eq.{bytes_eq-Decides}
use Rattle.std.proofs.lemmas.Bool.{and_parts, false_from_ne_true, not-false}
use Rattle.msi_base.specs.Lists.{list_cmp}
use Rattle.msi_base.proofs.BoolLemmas.{yes_is_no}
use Rattle.msi_base.specs.Refusals.{first_refusal}
use Rattle.msi_query.specs.Selection.{TableValues}
use Rattle.msi_table_values.specs.declared.value.Value.{Value}
use Rattle.msi_table_cells.specs.declared.cell.ValueRef.{ValueRef}
use Rattle.msi_table_values.specs.Columns.{ColumnDef}
use Rattle.msi_table_cells.specs.CellValues.{row_values}
use Rattle.msi_table_cells.specs.KeyOrder.{key_of}
use Rattle.msi_database_schema.specs.System.{columns_name, tables_name, validation_columns, validation_name}
use Rattle.msi_database_changes.specs.Database.{Database, are_alike, has_table, is_sound, rows_of, table_at, validation_is_standard, with_table}
use Rattle.msi_table_cells.specs.TableCells.{TableCells}
use Rattle.msi_query.specs.Rows.{table_values}
use Rattle.msi_database_changes.specs.Insert.{keys_of}
use Rattle.msi_database_changes.specs.Changes.{sound_refusal}
use Rattle.msi_database_changes.specs.Laws.{OthersStay, rows_at}
use Rattle.msi_database_schema.specs.Schema.{SchemaRows}
use Rattle.msi_database_schema.proofs.SchemaLemmas.{names_tie}
use Rattle.msi_database_schema.proofs.OrderlessLemmas.{texts_same}
use Rattle.msi_database_changes.proofs.describing.ShownTablesLemmas.{find_shown, shown}
use Rattle.msi_database_changes.proofs.steps.RefusedLemmas.{none_holds}

-- the rows that describe tables
abbrev pub describing : Database → SchemaRows
describing d = record {
  tables = rows_at tables_name d;
  columns = rows_at columns_name d;
  validation = if has_table validation_name d then rows_at validation_name d else map (row_values d.pool.places) d.unlisted_validation;
}

-- a table has these rows more, and the others have theirs
pub record AddsRows (name : List ℕ) (rows : List (List Value)) (old new : Database) : Type 0 where
  pub own : IsPermutation (rows_at name old ++ rows) (rows_at name new)
  pub others : OthersStay name old new

pub others_rows : (name other : List ℕ) (old new : Database) → OthersStay name old new → bytes_eq name other ≡ false → rows_at other new ≡ rows_at other old
others_rows name other old new h d = ap (λ (o : Option TableValues). unwrap_or (option_and_then (λ t. t.rows) o) []) (h other d)

-- the rows of a table that is there
pub rows_at_is : (name : List ℕ) (d : Database) (t : TableCells) → table_at name d ≡ Some t → rows_at name d ≡ map (row_values d.pool.places) (rows_of t)
rows_at_is name d t e = ap (λ (o : Option TableCells). unwrap_or (option_and_then (λ u. u.rows) (option_map (λ u. table_values d.pool.places u) o)) []) e ∙ go t.rows
  where
    go : (o : Option (List (List ValueRef))) → unwrap_or (option_map (map (row_values d.pool.places)) o) [] ≡ map (row_values d.pool.places) (unwrap_or o [])
    go None = refl
    go (Some rows) = refl

pub keys_are : (d : Database) (name : List ℕ) (t : TableCells) → table_at name d ≡ Some t → keys_of d.pool.places t ≡ map (key_of t.columns) (rows_at name d)
keys_are d name t e = go (rows_of t) ∙ ap (map (key_of t.columns)) (sym (rows_at_is name d t e))
  where
    go : (rows : List (List ValueRef)) → map (λ row. key_of t.columns (row_values d.pool.places row)) rows ≡ map (key_of t.columns) (map (row_values d.pool.places) rows)
    go [] = refl
    go (row ∷ rows) = ap (λ (l : List (List Value)). key_of t.columns (row_values d.pool.places row) ∷ l) (go rows)

-- a table put in leaves the others
pub put_elsewhere : (name other : List ℕ) (t : TableCells) (d : Database) → bytes_eq name other ≡ false → table_at other (with_table name t d) ≡ table_at other d
put_elsewhere name other t d e = find-put list_cmp (lists_total nat_cmp_total) other name t d.tables ∙ ap (λ b. if b then Some t else table_at other d) (names_tie other name ∙ flip)
  where
    flip : bytes_eq other name ≡ false
    flip = false_from_ne_true (bytes_eq other name) (λ u. let same = texts_same other name u in yes_is_no (bytes_eq name other) ((bytes_eq-Decides name other).1 (sym same)) e)

pub rows_elsewhere : (name other : List ℕ) (t : TableCells) (d : Database) → bytes_eq name other ≡ false → rows_at other (with_table name t d) ≡ rows_at other d
rows_elsewhere name other t d e = ap (λ (o : Option TableCells). unwrap_or (option_and_then (λ u. u.rows) (option_map (λ u. table_values d.pool.places u) o)) []) (put_elsewhere name other t d e)

-- what a sound database says of `_Validation`
pub standard : (d : Database) → first_refusal (sound_refusal d) ≡ None → validation_is_standard d ≡ true
standard d e = (and_parts _ (validation_is_standard d) (not-false (is_sound d) ((none_holds (sound_refusal d) e).0))).1

pub alike_shown : (d : Database) (columns : List ColumnDef) → validation_is_standard d ≡ true → find list_cmp validation_name (shown d) ≡ Some columns → are_alike columns validation_columns ≡ true
alike_shown d columns s e = go (table_at validation_name d) s (sym (find_shown validation_name d.tables) ∙ e)
  where
    go : (o : Option TableCells) → option_map_or (λ t. are_alike t.columns validation_columns) o true ≡ true → option_map (λ t. t.columns) o ≡ Some columns → are_alike columns validation_columns ≡ true
    go None s f = cc
    go (Some t) s f = let same : t.columns ≡ columns = cc in ap (λ (cs : List ColumnDef). are_alike cs validation_columns) (sym same) ∙ s

-- whether there is a table
pub has_shown : (name : List ℕ) (d : Database) → has_table name d ≡ is_some (find list_cmp name (shown d))
has_shown name d = go (table_at name d) ∙ ap is_some (sym (find_shown name d.tables))
  where
    go : (o : Option TableCells) → is_some o ≡ is_some (option_map (λ t. t.columns) o)
    go None = refl
    go (Some t) = refl

pub none_shown : (name : List ℕ) (d : Database) → has_table name d ≡ false → find list_cmp name (shown d) ≡ None
none_shown name d e = go (find list_cmp name (shown d)) (sym (has_shown name d) ∙ e)
  where
    go : (o : Option (List ColumnDef)) → is_some o ≡ false → o ≡ None
    go None e = refl
    go (Some x) e = cc

pub validation_at : (d : Database) → has_table validation_name d ≡ true → (describing d).validation ≡ rows_at validation_name d
validation_at d e = rw e refl
