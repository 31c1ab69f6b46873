-- After a table was created, the rows of the database describe the tables that it has.
use Rattle.std.proofs.Common.{◌≡◌, ℕ, Bool, true, false, List, [], ◌∷◌, ◌++◌, refl, sym, ap, ◌∙◌, subst, Some}
use Rattle.std.specs.Prelude.{T, Option, option_map, is_some, map, if◌then◌else◌, bytes_eq, IsPermutation}
use Rattle.std.specs.List.{AllByRecursion, list_any}
use Rattle.std.specs.FinMap.{find, put}
use Rattle.std.specs.FinMap.Entries.{find-put, is_sorted}
use Rattle.std.specs.Ordering.{eq_by_cmp}
use Rattle.std.specs.Cmp.{nat_cmp_total}
use Rattle.std.specs.Cmp.Lexicographic.{lists_total}
use Rattle.std.proofs.lemmas.List.Sorted.{IsPermutation-append_comm, IsPermutation-trans}
use Rattle.std.proofs.lemmas.Bool.{or_parts, false_from_ne_true, not-false}
use Rattle.msi_base.specs.Lists.{list_cmp}
use Rattle.msi_base.proofs.BoolLemmas.{yes_is_no}
use Rattle.msi_table_values.specs.declared.value.Value.{Value}
use Rattle.msi_table_values.specs.declared.value.Value.TheVariants.{Str}
use Rattle.msi_table_values.specs.Columns.{ColumnDef}
use Rattle.msi_table_cells.specs.KeyOrder.{key_of, same_key}
use Rattle.msi_database_schema.specs.System.{columns_name, tables_name, validation_columns, validation_name}
use Rattle.msi_database_changes.specs.Database.{Database, are_alike, has_table}
use Rattle.msi_database_changes.specs.Changes.{Change, no_change}
use Rattle.msi_database_schema.specs.Description.{column_rows, validation_rows}
use Rattle.msi_database_changes.specs.Create.{table_refusals}
use Rattle.msi_database_changes.specs.Laws.{rows_at}
use Rattle.msi_database_schema.specs.Schema.{schema_of}
use Rattle.msi_database_schema.proofs.SchemaLemmas.{Described, describes_from}
use Rattle.msi_database_schema.proofs.OrderlessLemmas.{HasKinds, IsReordered, texts_same}
use Rattle.msi_database_schema.proofs.AddedRowsLemmas.{IsNew, added}
use Rattle.msi_database_schema.proofs.AddedLemmas.{schema_added}
use Rattle.msi_database_changes.proofs.table_changes.AcceptedTableLemmas.{accepted, accepted_keys, is_new}
use Rattle.msi_database_changes.proofs.describing.ShownTablesLemmas.{Created, Inserted, find_shown, inserted, shown, shown_by_steps, shown_inserted}
use Rattle.msi_database_changes.proofs.describing.KindsKeptLemmas.{kinds_added, kinds_reordered}
use Rattle.msi_database_changes.proofs.describing.DescribingLemmas.{AddsRows, alike_shown, describing, has_shown, keys_are, none_shown, others_rows, rows_elsewhere, standard, validation_at}
use Rattle.msi_database_changes.proofs.steps.RefusedLemmas.{none_holds}

new_first : {X : Type 0} (old new all : List X) → IsPermutation (old ++ new) all → IsPermutation (new ++ old) all
new_first old new all h = IsPermutation-trans (new ++ old) (old ++ new) all (IsPermutation-append_comm new old) h

some_either : {X : Type 0} (b : Bool) (x : X) (o : Option X) → is_some o ≡ true → is_some (if b then Some x else o) ≡ true
some_either true x o e = refl
some_either false x o e = e

module _ (d : Database) (name : List ℕ) (columns : List ColumnDef) (c : Change) (r : Created d name columns c)
    (before : schema_of (describing d) ≡ Some (shown d)) (kinds : HasKinds (describing d))
    (a1 : AddsRows columns_name (column_rows name columns) d r.first.database)
    (a2 : AddsRows tables_name ((Str name ∷ []) ∷ []) r.first.database r.second.database)
    (a3 : AddsRows validation_name (validation_rows name columns) r.second.database r.third.database) where
  up : T (is_sorted list_cmp (shown d))
  up = (describes_from (describing d) (shown d) before).in_order

  pub refusals : AllByRecursion (λ r. r.0 ≡ false) (table_refusals d name columns)
  refusals = none_holds (table_refusals d name columns) r.accepted

  absent : has_table name d ≡ false
  absent = refusals.1.1.1.1.1.1.1.0

  pub validated : has_table validation_name d ≡ true
  validated = not-false (has_table validation_name d) (refusals.1.1.1.1.1.1.1.1.0)

  -- `_Validation` when its rows were added
  into : Inserted validation_name (validation_rows name columns) r.second r.third
  into = inserted validation_name (validation_rows name columns) r.second r.third r.in_validation

  same_shown : shown r.second.database ≡ shown d
  same_shown =
      let s1 = shown_inserted columns_name (column_rows name columns) (no_change d) r.first up r.in_columns in
      shown_inserted tables_name ((Str name ∷ []) ∷ []) r.first r.second (rw s1 up) r.in_tables ∙ s1

  alike : are_alike into.table.columns validation_columns ≡ true
  alike = alike_shown d into.table.columns (standard d r.sound)
      (ap (find list_cmp validation_name) (sym same_shown) ∙ find_shown validation_name r.second.database.tables ∙ ap (option_map (λ t. t.columns)) into.at)

  validation_before : rows_at validation_name r.second.database ≡ (describing d).validation
  validation_before = others_rows tables_name validation_name r.first.database r.second.database a2.others refl
      ∙ others_rows columns_name validation_name d r.first.database a1.others refl ∙ sym (validation_at d validated)

  keys : AllByRecursion (λ k. list_any (same_key k) (map (key_of into.table.columns) (describing d).validation) ≡ false) (map (key_of into.table.columns) (validation_rows name columns))
  keys = subst (λ (held : List (List Value)). AllByRecursion (λ k. list_any (same_key k) held ≡ false) (map (key_of into.table.columns) (validation_rows name columns)))
      (keys_are r.second.database validation_name into.table into.at ∙ ap (map (key_of into.table.columns)) validation_before)
      (accepted_keys r.second.database.pool.places into.table (validation_rows name columns) into.accepted)

  new : IsNew (describing d) name columns
  new = is_new (describing d) name columns (shown d) into.table.columns before (none_shown name d absent) (accepted d name columns r.accepted) alike keys

  -- the table that is put in is none of the three
  after : (other : List ℕ) → bytes_eq name other ≡ false → rows_at other c.database ≡ rows_at other r.third.database
  after other e = ap (λ (x : Change). rows_at other x.database) (sym r.last) ∙ rows_elsewhere name other _ r.third.database e

  no_validation : bytes_eq name validation_name ≡ false
  no_validation = false_from_ne_true _ (λ t. yes_is_no (has_table name d) (ap (λ (n : List ℕ). has_table n d) (texts_same name validation_name t) ∙ validated) absent)

  shown_now : shown c.database ≡ put list_cmp name columns (shown d)
  shown_now = shown_by_steps d name columns c up r

  pub validated_now : has_table validation_name c.database ≡ true
  validated_now = has_shown validation_name c.database ∙ ap (λ (ts : Described). is_some (find list_cmp validation_name ts)) shown_now
      ∙ ap is_some (find-put list_cmp (lists_total nat_cmp_total) validation_name name columns (shown d))
      ∙ some_either (eq_by_cmp list_cmp validation_name name) columns (find list_cmp validation_name (shown d)) (sym (has_shown validation_name d) ∙ validated)

  reordered : IsReordered (added (describing d) name columns) (describing c.database)
  reordered = let apart = or_parts (bytes_eq name tables_name) (bytes_eq name columns_name) new.not_reserved in record {
    tables = subst (IsPermutation _) (sym (after tables_name (apart.0) ∙ others_rows validation_name tables_name r.second.database r.third.database a3.others refl))
        (new_first (rows_at tables_name d) ((Str name ∷ []) ∷ []) (rows_at tables_name r.second.database)
        (subst (λ (old : List (List Value)). IsPermutation (old ++ (Str name ∷ []) ∷ []) (rows_at tables_name r.second.database)) (others_rows columns_name tables_name d r.first.database a1.others refl) a2.own));
    columns = subst (IsPermutation _) (sym (after columns_name (apart.1) ∙ others_rows validation_name columns_name r.second.database r.third.database a3.others refl
        ∙ others_rows tables_name columns_name r.first.database r.second.database a2.others refl))
        (new_first (rows_at columns_name d) (column_rows name columns) (rows_at columns_name r.first.database) a1.own);
    validation = subst (λ (rows : List (List Value)). IsPermutation (validation_rows name columns ++ rows) (describing c.database).validation) validation_before
        (subst (IsPermutation (validation_rows name columns ++ rows_at validation_name r.second.database)) (sym (validation_at c.database validated_now ∙ after validation_name no_validation))
        (new_first (rows_at validation_name r.second.database) (validation_rows name columns) (rows_at validation_name r.third.database) a3.own));
  }

  pub describes_created : schema_of (describing c.database) ≡ Some (shown c.database)
  describes_created = schema_added (describing d) (describing c.database) name columns (shown d) kinds new reordered before ∙ ap Some (sym shown_now)

  pub kinds_created : HasKinds (describing c.database)
  kinds_created = kinds_reordered (added (describing d) name columns) (describing c.database) reordered (kinds_added (describing d) name columns kinds)
