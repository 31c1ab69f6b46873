-- After a drop, and after a change of rows, the rows of the database describe the tables that it has.
use Rattle.std.proofs.Common.{◌≡◌, ℕ, true, false, List, [], ◌∷◌, take, refl, sym, ap, ◌∙◌, subst, Some, None}
use Rattle.std.specs.Prelude.{not, is_some, map, filter, if◌then◌else◌, bytes_eq, codes, IsPermutation}
use Rattle.std.specs.List.{list_all}
use Rattle.std.specs.FinMap.{find}
use Rattle.std.specs.FinMap.Entries.{find-where_key}
use Rattle.std.specs.Ordering.{eq_by_cmp}
use Rattle.std.proofs.lemmas.List.Sorted.{IsPermutation-map, IsPermutation-refl}
use Rattle.std.proofs.lemmas.Bool.{or_parts}
use Rattle.msi_base.specs.Lists.{list_cmp}
use Rattle.msi_query.specs.Queries.{UpdateQuery}
use Rattle.msi_table_values.specs.declared.value.Value.{Value}
use Rattle.msi_table_values.specs.declared.value.Value.TheVariants.{Str}
use Rattle.msi_table_cells.specs.CellValues.{row_values}
use Rattle.msi_table_cells.specs.KeyOrder.{same_key}
use Rattle.msi_database_schema.specs.Keys.{is_table_name}
use Rattle.msi_database_schema.specs.System.{columns_name, is_schema_table, tables_name, validation_columns, validation_name}
use Rattle.msi_database_changes.specs.Database.{Database, are_alike, has_table}
use Rattle.msi_table_cells.specs.TableCells.{TableCells}
use Rattle.msi_database_changes.specs.Changes.{Change}
use Rattle.msi_database_changes.specs.Update.{values_after}
use Rattle.msi_database_changes.specs.Laws.{OthersStay, rows_at}
use Rattle.msi_database_changes.proofs.steps.AtWidthLemmas.{IsChangeAtWidth}
use Rattle.msi_database_schema.specs.Schema.{schema_of}
use Rattle.msi_database_schema.proofs.SchemaLemmas.{Described, describes_from, names_tie, same_names}
use Rattle.msi_database_schema.proofs.OrderlessLemmas.{HasKinds, IsReordered}
use Rattle.msi_database_changes.proofs.table_changes.DroppedLemmas.{dropped, left_by_key, schema_dropped, stays, without}
use Rattle.msi_database_changes.proofs.table_changes.UnlistedLemmas.{schema_unlisted, unlisting}
use Rattle.msi_database_changes.proofs.describing.DescriptionLemmas.{IsSameButDescription, front, rows_kept, schema_undescribed}
use Rattle.msi_database_changes.proofs.describing.KindsKeptLemmas.{kinds_dropped, kinds_reordered, kinds_unlisting}
use Rattle.msi_database_changes.proofs.describing.ShownTablesLemmas.{shown}
use Rattle.msi_database_changes.proofs.describing.ShownChangesLemmas.{Dropped, shown_changed, shown_dropped_parts}
use Rattle.msi_database_changes.proofs.describing.DescribingLemmas.{describing, has_shown, others_rows, validation_at}

-- the rows that a drop leaves
abbrev pub kept_rows : List ℕ → List (List Value) → List (List Value)
kept_rows name rows = filter (λ row. not (same_key (Str name ∷ []) (take 1 row))) rows

kept_stay : (name : List ℕ) (rows : List (List Value)) → is_table_name name ≡ true → kept_rows name rows ≡ filter (stays name) rows
kept_stay [] rows e = cc
kept_stay (n ∷ ns) rows e = left_by_key n ns rows

moved : (name : List ℕ) (rows all : List (List Value)) → is_table_name name ≡ true → IsPermutation (kept_rows name rows) all → IsPermutation (filter (stays name) rows) all
moved name rows all e h = subst (λ (l : List (List Value)). IsPermutation l all) (kept_stay name rows e) h

pub unlisted_at : (d : Database) → has_table validation_name d ≡ false → (describing d).validation ≡ map (row_values d.pool.places) d.unlisted_validation
unlisted_at d e = rw e refl

-- ---- a drop

module _ (d : Database) (name : List ℕ) (c : Change) (p : Dropped d name c)
    (before : schema_of (describing d) ≡ Some (shown d)) (kinds : HasKinds (describing d))
    (tables : IsPermutation (kept_rows name (rows_at tables_name d)) (rows_at tables_name c.database))
    (columns : IsPermutation (kept_rows name (rows_at columns_name d)) (rows_at columns_name c.database)) where
  apart : (is_schema_table name ≡ false) × (bytes_eq name validation_name ≡ false)
  apart = or_parts (is_schema_table name) (bytes_eq name validation_name) p.no_system

  shown_now : shown c.database ≡ without name (shown d)
  shown_now = shown_dropped_parts d name c ((describes_from (describing d) (shown d) before).in_order) p

  pub same_validation : has_table validation_name c.database ≡ has_table validation_name d
  same_validation = has_shown validation_name c.database ∙ ap (λ (ts : Described). is_some (find list_cmp validation_name ts)) shown_now
      ∙ ap is_some (find-where_key list_cmp (λ x. not (eq_by_cmp list_cmp name x)) validation_name (λ x e. ap (λ (y : List ℕ). not (eq_by_cmp list_cmp name y)) (sym (same_names validation_name x e))) (shown d)
      ∙ ap (λ b. if not b then find list_cmp validation_name (shown d) else None) (names_tie name validation_name ∙ apart.1))
      ∙ sym (has_shown validation_name d)

  rows_dropped : has_table validation_name d ≡ true → IsPermutation (kept_rows name (rows_at validation_name d)) (rows_at validation_name c.database) → IsReordered (dropped (describing d) name) (describing c.database)
  rows_dropped has validation = record {
    tables = moved name (rows_at tables_name d) (rows_at tables_name c.database) p.named tables;
    columns = moved name (rows_at columns_name d) (rows_at columns_name c.database) p.named columns;
    validation = subst (λ (rows : List (List Value)). IsPermutation (filter (stays name) rows) (describing c.database).validation) (sym (validation_at d has))
        (subst (IsPermutation (filter (stays name) (rows_at validation_name d))) (sym (validation_at c.database (same_validation ∙ has)))
        (moved name (rows_at validation_name d) (rows_at validation_name c.database) p.named validation));
  }

  rows_unlisted : has_table validation_name d ≡ false → IsPermutation (map (row_values d.pool.places) d.unlisted_validation) (map (row_values c.database.pool.places) c.database.unlisted_validation)
      → IsReordered (unlisting (describing d) name) (describing c.database)
  rows_unlisted none validation = record {
    tables = moved name (rows_at tables_name d) (rows_at tables_name c.database) p.named tables;
    columns = moved name (rows_at columns_name d) (rows_at columns_name c.database) p.named columns;
    validation = subst (λ (rows : List (List Value)). IsPermutation rows (describing c.database).validation) (sym (unlisted_at d none))
        (subst (IsPermutation (map (row_values d.pool.places) d.unlisted_validation)) (sym (unlisted_at c.database (same_validation ∙ none))) validation);
  }

  -- where `_Validation` is a table
  pub describes_dropped : has_table validation_name d ≡ true → IsPermutation (kept_rows name (rows_at validation_name d)) (rows_at validation_name c.database)
      → schema_of (describing c.database) ≡ Some (shown c.database)
  describes_dropped has validation = schema_dropped (describing d) (describing c.database) name (shown d) kinds apart.0 (rows_dropped has validation) before ∙ ap Some (sym shown_now)

  pub kinds_after_drop : has_table validation_name d ≡ true → IsPermutation (kept_rows name (rows_at validation_name d)) (rows_at validation_name c.database) → HasKinds (describing c.database)
  kinds_after_drop has validation = kinds_reordered (dropped (describing d) name) (describing c.database) (rows_dropped has validation) (kinds_dropped (describing d) name kinds)

  -- where it is none, its rows are left
  pub describes_unlisted : has_table validation_name d ≡ false → IsPermutation (map (row_values d.pool.places) d.unlisted_validation) (map (row_values c.database.pool.places) c.database.unlisted_validation)
      → schema_of (describing c.database) ≡ Some (shown c.database)
  describes_unlisted none validation = schema_unlisted (describing d) (describing c.database) name (shown d) kinds apart.0 (rows_unlisted none validation) before ∙ ap Some (sym shown_now)

  pub kinds_unlisted : has_table validation_name d ≡ false → IsPermutation (map (row_values d.pool.places) d.unlisted_validation) (map (row_values c.database.pool.places) c.database.unlisted_validation) → HasKinds (describing c.database)
  kinds_unlisted none validation = kinds_reordered (unlisting (describing d) name) (describing c.database) (rows_unlisted none validation) (kinds_unlisting (describing d) name kinds)

-- ---- a change of rows

pub describes_changed : (d : Database) (c : Change) → IsChangeAtWidth d c → schema_of (describing d) ≡ Some (shown d) → HasKinds (describing d) → IsSameButDescription (describing d) (describing c.database)
    → schema_of (describing c.database) ≡ Some (shown c.database)
describes_changed d c change before kinds same = schema_undescribed (describing d) (describing c.database) (shown d) kinds same before
    ∙ ap Some (sym (shown_changed d c ((describes_from (describing d) (shown d) before).in_order) change))

-- where only another table changed, and the rows of an unlisted `_Validation` stayed
pub same_elsewhere : (table : List ℕ) (d e : Database) → OthersStay table d e → is_schema_table table ≡ false → bytes_eq table validation_name ≡ false → shown e ≡ shown d
    → map (row_values d.pool.places) d.unlisted_validation ≡ map (row_values e.pool.places) e.unlisted_validation → IsSameButDescription (describing d) (describing e)
same_elsewhere table d e stay free apart same unlisted =
    let r = or_parts (bytes_eq table tables_name) (bytes_eq table columns_name) free in
    let rows : rows_at validation_name d ≡ rows_at validation_name e = sym (others_rows table validation_name d e stay apart) in
    let has : has_table validation_name d ≡ has_table validation_name e = has_shown validation_name d ∙ ap (λ (ts : Described). is_some (find list_cmp validation_name ts)) (sym same) ∙ sym (has_shown validation_name e) in
    let validation : (describing d).validation ≡ (describing e).validation = λ i. if has i then rows i else unlisted i in
    record {
      tables = subst (IsPermutation (rows_at tables_name d)) (sym (others_rows table tables_name d e stay (r.0))) (IsPermutation-refl (rows_at tables_name d));
      columns = subst (IsPermutation (rows_at columns_name d)) (sym (others_rows table columns_name d e stay (r.1))) (IsPermutation-refl (rows_at columns_name d));
      validation = subst (λ (rows : List (List Value)). IsPermutation (map front (describing d).validation) (map front rows)) validation (IsPermutation-refl (map front (describing d).validation));
    }

-- where descriptions were set in `_Validation`
pub same_but_description : (d e : Database) (q : UpdateQuery) (t : TableCells) → OthersStay validation_name d e → has_table validation_name d ≡ true → shown e ≡ shown d
    → are_alike t.columns validation_columns ≡ true → list_all (λ s. bytes_eq s.0 (codes "Description")) q.sets ≡ true
    → IsPermutation (values_after t q (rows_at validation_name d)) (rows_at validation_name e) → IsSameButDescription (describing d) (describing e)
same_but_description d e q t stay has same alike all rows =
    let still : has_table validation_name e ≡ true = has_shown validation_name e ∙ ap (λ (ts : Described). is_some (find list_cmp validation_name ts)) same ∙ sym (has_shown validation_name d) ∙ has in
    record {
      tables = subst (IsPermutation (rows_at tables_name d)) (sym (others_rows validation_name tables_name d e stay refl)) (IsPermutation-refl (rows_at tables_name d));
      columns = subst (IsPermutation (rows_at columns_name d)) (sym (others_rows validation_name columns_name d e stay refl)) (IsPermutation-refl (rows_at columns_name d));
      validation = subst (λ (rows : List (List Value)). IsPermutation (map front rows) (map front (describing e).validation)) (sym (validation_at d has))
          (subst (λ (rows : List (List Value)). IsPermutation (map front (rows_at validation_name d)) (map front rows)) (sym (validation_at e still))
          (subst (λ (l : List (List Value)). IsPermutation l (map front (rows_at validation_name e))) (rows_kept t q (rows_at validation_name d) alike all)
          (IsPermutation-map front (values_after t q (rows_at validation_name d)) (rows_at validation_name e) rows)));
    }
