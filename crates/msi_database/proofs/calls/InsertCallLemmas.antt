-- An insert whose rows find no room: what adding them refuses, the call refuses.
use Rattle.std.proofs.Common.{◌≡◌, ℕ, Bool, true, false, List, [], Option, Some, None, Result, sym, ap, ap₂, subst, ◌∙◌}
use Rattle.std.specs.Prelude.{option_map, unwrap_or}
use Rattle.msi_base.specs.declared.errors.ErrorKind.{ErrorKind}
use Rattle.msi_base.specs.declared.errors.ErrorKind.TheVariants.{InvalidData, InvalidInput}
use Rattle.msi_pool.specs.Pool.{Pool}
use Rattle.msi_table_cells.specs.declared.cell.ValueRef.{ValueRef}
use Rattle.msi_table_values.specs.declared.value.Value.{Value}
use Rattle.msi_table_values.specs.Columns.{ColumnDef}
use Rattle.msi_table.specs.Tables.{TableDef, long_table_of}
use Rattle.msi_database_changes.proofs.steps.AtWidthLemmas.{sound_widened}
use Rattle.msi_query.specs.Queries.{InsertQuery}
use Rattle.msi_base.specs.Refusals.{IsRefusal, Refusals, first_refusal, or_refused, unless_refused}
use Rattle.msi_database_schema.specs.System.{is_system_table}
use Rattle.msi_database_changes.specs.Database.{Database, is_sound, table_at}
use Rattle.msi_database_changes.specs.Widening.{widened}
use Rattle.msi_table_cells.specs.TableCells.{TableCells}
use Rattle.msi_database_changes.specs.Changes.{Change, no_change}
use Rattle.msi_database_changes.specs.Insert.{cells_added, columns_at, early_insert_refusals, insert_at_width, insert_rows, insert_whole, row_refusals, table_with, whole_insert, whole_rows}
use Rattle.msi_database_changes.specs.Texts.{UsedPool, in_use}
use Rattle.msi_database.specs.Listed.{IsKnown}
use Rattle.msi_database.proofs.calls.AcceptedCallLemmas.{both_pass, whole_is}
use Rattle.msi_database.proofs.calls.RefusedCallLemmas.{cells_full, insert_refused, inserted_misfit}
use Rattle.msi_database.proofs.calls.RowCallLemmas.{known_cells}
use Rattle.msi_database.proofs.widths.WideRefusalLemmas.{known_widened, long_pool, long_used, refused_widening}

module _ (d : Database) (sound : is_sound d ≡ true) (name : List ℕ) (t : TableDef) (held : List (List ValueRef)) (at : table_at name d ≡ Some (table_with t.columns held)) (values : List (List Value)) (l : ErrorKind) where
  full_of : (q : InsertQuery) → name ≡ q.table → values ≡ q.rows → is_system_table name ≡ false → first_refusal (row_refusals d.pool.places (table_with t.columns held) values) ≡ None
      → (before : UsedPool) → before ≡ record { pool = d.pool; is_used = false } → IsRefusal (or_refused InvalidInput (cells_added before.pool.long t.columns (in_use before) held values)) l
      → IsRefusal (insert_at_width d q) l
  full_of q named values_are free passed before began refused =
      let seen : InsertQuery = record { table = name; columns = q.columns; rows = values } in
      let same : seen ≡ q = λ i. record { table = named i; columns = q.columns; rows = values_are i } in
      let here = subst (λ (u : UsedPool). IsRefusal (or_refused InvalidInput (cells_added u.pool.long t.columns (in_use u) held values)) l) began refused in
      subst (λ (q : InsertQuery). IsRefusal (insert_at_width d q) l) same
      (insert_refused d seen l (both_pass (is_sound d) (is_system_table name) InvalidData InvalidInput sound free)
      (cells_full (no_change d) name values (table_with t.columns held) at l passed here))

-- the same, from what a call knows
insert_full_at : (pool : Pool) (d : Database) → pool ≡ d.pool → is_sound d ≡ true → (name : List ℕ) (t : TableDef) → IsKnown d name t → (columns : List ColumnDef) → columns ≡ t.columns
    → (held : List (List ValueRef)) → table_at t.name d ≡ Some (table_with t.columns held) → (cloned : Pool) → cloned ≡ pool → (before : UsedPool) → before ≡ record { pool = cloned; is_used = false }
    → (q : InsertQuery) (values : List (List Value)) → name ≡ q.table → values ≡ q.rows → (b : Bool) → b ≡ is_system_table name → b ≡ false
    → first_refusal (row_refusals pool.places (table_with columns held) values) ≡ None
    → (l : ErrorKind) → IsRefusal (or_refused InvalidInput (cells_added before.pool.long columns (in_use before) held values)) l → IsRefusal (insert_at_width d q) l
insert_full_at pool d pool_is sound name t is_known columns columns_is held at cloned cloned_is before before_is q values named values_are b b_is free passed l refused =
    full_of d sound name t held (known_cells d name t (table_with t.columns held) is_known at) values l q named values_are (sym b_is ∙ free)
    (ap₂ (λ (p : Pool) (cs : List ColumnDef). first_refusal (row_refusals p.places (table_with cs held) values)) (sym pool_is) (sym columns_is) ∙ passed)
    before (before_is ∙ ap (λ (p : Pool). record { pool = p; is_used = false }) (cloned_is ∙ pool_is))
    (subst (λ (cs : List ColumnDef). IsRefusal (or_refused InvalidInput (cells_added before.pool.long cs (in_use before) held values)) l) columns_is refused)

-- rows that are refused, for their values or their keys or as too many
insert_misfit_at : (pool : Pool) (d : Database) → pool ≡ d.pool → is_sound d ≡ true → (q : InsertQuery) → is_system_table q.table ≡ false → (t : TableDef) → IsKnown d q.table t → (columns : List ColumnDef) → columns ≡ t.columns
    → (held : List (List ValueRef)) → table_at t.name d ≡ Some (table_with t.columns held) → (rows : List (List ValueRef)) → rows ≡ held → (values : List (List Value)) → values ≡ q.rows
    → (l : ErrorKind) → IsRefusal {A = Unit {0}} (unless_refused (row_refusals pool.places (table_with columns rows) values) tt) l → IsRefusal (insert_at_width d q) l
insert_misfit_at pool d pool_is sound q free t is_known columns columns_is held at rows rows_are values values_are l refused =
    let same : row_refusals pool.places (table_with columns rows) values ≡ row_refusals d.pool.places (table_with t.columns held) q.rows =
    ap₂ (λ (p : Pool) (cs : List ColumnDef). row_refusals p.places (table_with cs rows) values) pool_is columns_is
    ∙ ap₂ (λ (rs : List (List ValueRef)) (vs : List (List Value)). row_refusals d.pool.places (table_with t.columns rs) vs) rows_are values_are in
    insert_refused d q l (both_pass (is_sound d) (is_system_table q.table) InvalidData InvalidInput sound free)
    (inserted_misfit (no_change d) q.table q.rows (table_with t.columns held) (known_cells d q.table t (table_with t.columns held) is_known at) l
    (subst (λ (rs : Refusals). IsRefusal {A = Unit {0}} (unless_refused rs tt) l) same refused))

-- ALSO WHERE REFERENCES MAY WIDEN

whole_full : (pool : Pool) (d : Database) → pool ≡ d.pool → is_sound d ≡ true → (name : List ℕ) (t : TableDef) → IsKnown d name t → (columns : List ColumnDef) → columns ≡ t.columns
    → (held : List (List ValueRef)) → table_at t.name d ≡ Some (table_with t.columns held) → (cloned : Pool) → cloned ≡ pool → (before : UsedPool) → before ≡ record { pool = cloned; is_used = false }
    → (q : InsertQuery) (values : List (List Value)) → name ≡ q.table → values ≡ q.rows → (b : Bool) → b ≡ is_system_table name → b ≡ false
    → first_refusal (row_refusals pool.places (table_with columns held) values) ≡ None
    → (l : ErrorKind) → IsRefusal (or_refused InvalidInput (cells_added true columns (in_use before) held values)) l → IsRefusal (insert_whole d q) l
whole_full pool d pool_is sound name t is_known columns columns_is held at cloned cloned_is before before_is q values named values_are b b_is free passed l refused =
    refused_widening (λ d. insert_at_width d q) d l sound
    (insert_full_at (long_pool pool) (widened d) (ap long_pool pool_is) (sound_widened d sound) name (long_table_of t) (known_widened d name t is_known) columns columns_is held at
    (long_pool cloned) (ap long_pool cloned_is) (long_used before) (ap long_used before_is) q values named values_are b b_is free passed l refused)

whole_misfit : (pool : Pool) (d : Database) → pool ≡ d.pool → is_sound d ≡ true → (q : InsertQuery) → is_system_table q.table ≡ false → (t : TableDef) → IsKnown d q.table t → (columns : List ColumnDef) → columns ≡ t.columns
    → (held : List (List ValueRef)) → table_at t.name d ≡ Some (table_with t.columns held) → (rows : List (List ValueRef)) → rows ≡ held → (values : List (List Value)) → values ≡ q.rows
    → (l : ErrorKind) → IsRefusal {A = Unit {0}} (unless_refused (row_refusals pool.places (table_with columns rows) values) tt) l → IsRefusal (insert_whole d q) l
whole_misfit pool d pool_is sound q free t is_known columns columns_is held at rows rows_are values values_are l refused =
    refused_widening (λ d. insert_at_width d q) d l sound
    (insert_misfit_at (long_pool pool) (widened d) (ap long_pool pool_is) (sound_widened d sound) q free (long_table_of t) (known_widened d q.table t is_known) columns columns_is held at rows rows_are values values_are l refused)

-- AN INSERT THAT NOTHING REFUSES EARLY

-- its rows have a value for each column
pub values_whole : (d : Database) (q : InsertQuery) (t : TableDef) → IsKnown d q.table t → (columns : List ColumnDef) → columns ≡ t.columns
    → (held : List (List ValueRef)) → table_at t.name d ≡ Some (table_with t.columns held) → (names : List (List ℕ)) → names ≡ q.columns → (rows : List (List Value)) → rows ≡ q.rows
    → (values : List (List Value)) → values ≡ whole_rows columns names rows → values ≡ (whole_insert d q).rows
values_whole d q t is_known columns columns_is held at names named rows rows_are values values_are =
    let here : columns_at q.table d ≡ t.columns =
    ap (λ (o : Option TableCells). unwrap_or (option_map (λ t. t.columns) o) []) (known_cells d q.table t (table_with t.columns held) is_known at) in
    values_are ∙ ap₂ (λ (ns : List (List ℕ)) (rs : List (List Value)). whole_rows columns ns rs) named rows_are
    ∙ ap (λ (cs : List ColumnDef). whole_rows cs q.columns q.rows) (columns_is ∙ sym here)

pub insert_full : (pool : Pool) (d : Database) → pool ≡ d.pool → is_sound d ≡ true → (name : List ℕ) (t : TableDef) → IsKnown d name t → (columns : List ColumnDef) → columns ≡ t.columns
    → (held : List (List ValueRef)) → table_at t.name d ≡ Some (table_with t.columns held) → (cloned : Pool) → cloned ≡ pool → (before : UsedPool) → before ≡ record { pool = cloned; is_used = false }
    → (q : InsertQuery) → first_refusal (early_insert_refusals d q) ≡ None → (values : List (List Value)) → name ≡ q.table → values ≡ (whole_insert d q).rows → (b : Bool) → b ≡ is_system_table name → b ≡ false
    → first_refusal (row_refusals pool.places (table_with columns held) values) ≡ None
    → (l : ErrorKind) → IsRefusal (or_refused InvalidInput (cells_added true columns (in_use before) held values)) l → IsRefusal (insert_rows d q) l
insert_full pool d pool_is sound name t is_known columns columns_is held at cloned cloned_is before before_is q early values named values_are b b_is free passed l refused =
    subst (λ (r : Result Change ErrorKind). IsRefusal r l) (sym (whole_is d q early))
    (whole_full pool d pool_is sound name t is_known columns columns_is held at cloned cloned_is before before_is (whole_insert d q) values named values_are b b_is free passed l refused)

pub insert_misfit : (pool : Pool) (d : Database) → pool ≡ d.pool → is_sound d ≡ true → (q : InsertQuery) → first_refusal (early_insert_refusals d q) ≡ None → is_system_table q.table ≡ false
    → (t : TableDef) → IsKnown d q.table t → (columns : List ColumnDef) → columns ≡ t.columns
    → (held : List (List ValueRef)) → table_at t.name d ≡ Some (table_with t.columns held) → (rows : List (List ValueRef)) → rows ≡ held → (values : List (List Value)) → values ≡ (whole_insert d q).rows
    → (l : ErrorKind) → IsRefusal {A = Unit {0}} (unless_refused (row_refusals pool.places (table_with columns rows) values) tt) l → IsRefusal (insert_rows d q) l
insert_misfit pool d pool_is sound q early free t is_known columns columns_is held at rows rows_are values values_are l refused =
    subst (λ (r : Result Change ErrorKind). IsRefusal r l) (sym (whole_is d q early))
    (whole_misfit pool d pool_is sound (whole_insert d q) free t is_known columns columns_is held at rows rows_are values values_are l refused)
