-- Worked examples of making a transform, by computation: of pairs whose transforms are applied in the other examples.
use Rattle.std.specs.Prelude.{◌≡◌, ℕ, false, List, [], ◌∷◌, codes, refl, Option, Some, pos, negsuc, option_map}
use Rattle.msi_pool.specs.Pool.{Place}
use Rattle.msi_table_values.specs.declared.value.Value.{Value}
use Rattle.msi_table_values.specs.declared.value.Value.TheVariants.{Null, Int, Str}
use Rattle.msi_table_values.specs.Columns.{ColumnDef}
use Rattle.msi_base.specs.declared.codepage.CodePage.TheVariants.{Utf8}
use Rattle.msi_database_schema.specs.System.{columns_columns, columns_name, tables_columns, tables_name}
use Rattle.msi_database_storage.specs.Kept.{Kept}
use Rattle.msi_transform.specs.Transforms.{TransformDef}
use Rattle.msi_transform_making.specs.Making as making
use Rattle.msi_transform_applying.proofs.ApplyingRows.{Listing, column_rows, p_columns, p_rows, place}
use Rattle.msi_transform_applying.proofs.ApplyingRows.{rows_of_t, stored_tables, t_columns, t_rows, table_rows}

abbrev lists : List (List Value) → Listing
lists rows = (columns_name, columns_columns, rows) ∷ (tables_name, tables_columns, table_rows) ∷ []

abbrev kept : Listing → Kept
kept tables = let s = stored_tables tables (record { places = []; is_used = false }) in record {
  database = record {
    pool = record { page = Utf8; long = false; places = s.1.places };
    tables = s.0;
    unlisted_validation = [];
  };
  streams = [];
}

abbrev transform_of : Kept → Kept → Option TransformDef
transform_of old new =
    option_map (making.transform_with 0 new (making.told_tables old new)) (making.stored_tables (making.told_tables old new))

abbrev told : Option TransformDef → Option (List (List ℕ × List ℕ) × List Place)
told t = option_map (λ t. (t.tables, t.pool.places)) t

abbrev old_t : Listing
old_t = (codes "T", t_columns, t_rows) ∷ lists column_rows

abbrev new_t : Listing
new_t = (
  codes "T",
  t_columns,
  (Str (codes "a") ∷ Str (codes "z") ∷ Int (pos 1) ∷ Int (negsuc 0) ∷ [])
      ∷ (Str (codes "c") ∷ Str (codes "y") ∷ Int (negsuc 4) ∷ Int (pos 0) ∷ [])
      ∷ (Str (codes "d") ∷ Null ∷ Int (pos 7) ∷ Int (pos 5) ∷ []) ∷ [],
) ∷ lists column_rows

pub rows_differ : told (transform_of (kept old_t) (kept new_t)) ≡ Some (
  (codes "T", rows_of_t) ∷ [],
  place (codes "b") ∷ place (codes "a") ∷ place (codes "z") ∷ place (codes "d") ∷ [],
)
rows_differ = refl

pub nothing_differs : told (transform_of (kept old_t) (kept old_t)) ≡ Some ([], [])
nothing_differs = refl

abbrev with_p : List ColumnDef → List (List Value) → List (List Value) → Listing
with_p columns rows described_rows = (codes "P", columns, rows) ∷ lists described_rows

pub keys_differ : told (transform_of (kept (with_p p_columns p_rows column_rows)) (kept (with_p p_columns
    ((Int (pos 2) ∷ Str (codes "u") ∷ Str (codes "new") ∷ [])
    ∷ (Int (pos 3) ∷ Str (codes "u") ∷ Str (codes "w") ∷ []) ∷ []) column_rows)))
    ≡ Some (
      (
        codes "P",
        0 ∷ 0 ∷ 1 ∷ 0x80 ∷ 1 ∷ 0
            ∷ 4 ∷ 0 ∷ 2 ∷ 0x80 ∷ 1 ∷ 0 ∷ 2 ∷ 0
            ∷ 1 ∷ 3 ∷ 3 ∷ 0x80 ∷ 1 ∷ 0 ∷ 3 ∷ 0 ∷ [],
      ) ∷ [],
      record { text = codes "u"; count = 3 } ∷ place (codes "new") ∷ place (codes "w") ∷ [],
    )
keys_differ = refl
