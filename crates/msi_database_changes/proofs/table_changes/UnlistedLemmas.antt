-- A table that is dropped where `_Validation` isn't listed; and the schema of a new package.
use Rattle.std.proofs.Common.{◌≡◌, ℕ, true, false, List, [], ◌∷◌, length, refl, ap, ◌∙◌, Some}
use Rattle.std.specs.Prelude.{◌&&◌, filter, find, bytes_eq}
use Rattle.std.specs.List.{list_any}
use Rattle.std.proofs.Math.Bool.{and-false}
use Rattle.std.proofs.lemmas.Bool.{or_parts, or_from}
use Rattle.msi_table_values.specs.declared.value.Value.{Value}
use Rattle.msi_database_schema.specs.System.{is_schema_table}
use Rattle.msi_database_schema.specs.Schema.{SchemaRows, column_rows, columns_of, describes_column, has_number}
use Rattle.msi_database_schema.specs.Schema.{is_about, lacks_value, schema_of, text_at, value_at}
use Rattle.msi_base.proofs.ListLemmas.{all_from, all_kept, filter_none}
use Rattle.msi_base.proofs.BoolLemmas.{by_test}
use Rattle.msi_table_values.specs.Values.{is_null}
use Rattle.msi_database_schema.proofs.SchemaLemmas.{Described, Describes, NoFault, describes_from, schema_from}
use Rattle.msi_database_schema.proofs.OrderlessLemmas.{IsColumnRow, columns_same, filter-filter, is_counted, texts_same, HasKinds, IsReordered, describes_reordered_too}
use Rattle.msi_database_changes.proofs.table_changes.DroppedLemmas.{columns_left, describes_without, listed_left, sound_left, stays, unlisted, without}

-- the rows without those about a name, but for those of `_Validation`
abbrev pub unlisting : SchemaRows → List ℕ → SchemaRows
unlisting s name = record s { tables = filter (stays name) s.tables; columns = filter (stays name) s.columns }

module _ (s : SchemaRows) (name : List ℕ) where
  abbrev u : SchemaRows
  u = unlisting s name

  no_columns : column_rows u name ≡ []
  no_columns = filter-filter (is_about name) is_counted (filter (stays name) s.columns)
      ∙ filter-filter (λ row. is_counted row && is_about name row) (stays name) s.columns
      ∙ filter_none (λ row. stays name row && (is_counted row && is_about name row)) s.columns (all_from _ s.columns (λ row h. by_test (is_about name row) (λ t. rw t refl) (λ t. rw (t, and-false (is_counted row)) refl)))

  none_described : (row : List Value) → is_about name row ≡ true → describes_column u row ≡ false
  none_described row t = let same : text_at 0 row ≡ name = texts_same _ _ t in ap (list_any (λ c. bytes_eq (text_at 2 c) (text_at 1 row))) (ap (column_rows u) same ∙ no_columns)

  still_full : (row : List Value) → lacks_value s row ≡ false → lacks_value u row ≡ false
  still_full row e = by_test (is_about name row)
      (λ t. or_from _ _ ((or_parts _ _ e).0) (ap (λ b. b && is_null (value_at 2 row)) (none_described row t)))
      (λ t. rw (columns_left s name (text_at 0 row) t) e)

  all_full : (rows : List (List Value)) → list_any (lacks_value s) rows ≡ false → list_any (lacks_value u) rows ≡ false
  all_full [] e = refl
  all_full (row ∷ rows) e = let g = or_parts _ _ e in or_from _ _ (still_full row (g.0)) (all_full rows (g.1))

  sound_u : NoFault s → NoFault u
  sound_u n = let m = sound_left s name n in record {
    tables_full = m.tables_full;
    columns_full = m.columns_full;
    validation_full = all_full s.validation n.validation_full;
    plain_names = m.plain_names;
    tables_once = m.tables_once;
    columns_once = m.columns_once;
    validation_once = n.validation_once;
    columns_listed = m.columns_listed;
  }

  columns_u : (other : List ℕ) → bytes_eq other name ≡ false → columns_of u other ≡ columns_of s other
  columns_u other d = columns_same s u other (ap length (columns_left s name other d)) (λ column. refl) (λ number. ap (find (has_number number)) (columns_left s name other d))

  describes_u : (ts : Described) → is_schema_table name ≡ false → Describes s ts → Describes u (without name ts)
  describes_u ts free d = describes_without s u name ts free (sound_u d.sound) (unlisted s name) (listed_left s name) columns_u d

pub schema_unlisted : (s u : SchemaRows) (name : List ℕ) (ts : Described) → HasKinds s → is_schema_table name ≡ false → IsReordered (unlisting s name) u
    → schema_of s ≡ Some ts → schema_of u ≡ Some (without name ts)
schema_unlisted s u name ts kinds free same e =
    schema_from u (without name ts) (describes_reordered_too (unlisting s name) u same
    (record { columns = all_kept IsColumnRow (stays name) s.columns kinds.columns; validation = kinds.validation }) (without name ts) (describes_u s name ts free (describes_from s ts e)))
