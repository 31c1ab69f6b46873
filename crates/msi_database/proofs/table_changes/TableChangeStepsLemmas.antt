-- A create and a drop, by the rows of the system tables that the database has at its beginning.
use Rattle.std.proofs.Common.{◌≡◌, ℕ, true, false, not, List, [], ◌∷◌, ◌++◌, filter, Some, None, Ok, refl, ap, ◌∙◌, bytes_eq}
use Rattle.std.specs.Prelude.{Result}
use Rattle.std.specs.List.{fold}
use Rattle.std.proofs.lemmas.Bool.{or_parts}
use Rattle.msi_base.specs.declared.errors.ErrorKind.{ErrorKind}
use Rattle.msi_base.specs.declared.errors.ErrorKind.TheVariants.{InvalidInput, NotFound}
use Rattle.msi_pool.specs.Pool.{Place}
use Rattle.msi_table_values.specs.declared.value.Value.{Value}
use Rattle.msi_table_values.specs.declared.value.Value.TheVariants.{Str}
use Rattle.msi_table_cells.specs.declared.cell.ValueRef.{ValueRef}
use Rattle.msi_table_values.specs.Columns.{ColumnDef}
use Rattle.msi_table_cells.specs.StoredOrder.{in_stored_order}
use Rattle.msi_base.specs.Refusals.{first_refusal, or_refused, ◌>>=◌}
use Rattle.msi_table_cells.specs.TableCells.{TableCells}
use Rattle.msi_database_schema.specs.Keys.{is_table_name}
use Rattle.msi_database_schema.specs.System.{is_schema_table, is_system_table, tables_name, columns_name, validation_name}
use Rattle.msi_database_schema.specs.Description.{column_rows, validation_rows}
use Rattle.msi_database_schema.proofs.RowOrderLemmas.{names_total}
use Rattle.msi_database_schema.proofs.FaultLemmas.{texts_flip}
use Rattle.msi_database_changes.specs.Database.{Database, is_sound, table_at, rows_of}
use Rattle.msi_database_changes.specs.Changes.{Change, no_change, pool_of, with_stored, sound_refusal}
use Rattle.msi_database_changes.specs.Texts.{PoolInUse, rows_released}
use Rattle.msi_database_changes.specs.Insert.{cells_added, rows_inserted, row_refusals}
use Rattle.msi_database_changes.specs.Create.{create_at_width, table_refusals, with_new_table}
use Rattle.msi_database_changes.specs.Drop.{drop_table, is_row_about, rows_forgotten, table_released}
use Rattle.msi_database_changes.proofs.describing.DescribingLemmas.{put_elsewhere}
use Rattle.msi_database_storage.proofs.MapLemmas as maps
use Rattle.msi_database_storage.proofs.StreamLemmas.{list_cmp_exact}
use Rattle.msi_database_storage.proofs.EditLemmas.{apart_names}
use Rattle.msi_database.proofs.calls.AcceptedCallLemmas.{goes_on, found, inserted_by_cells, create_made}

-- the change after a table's rows and the pool became these
abbrev pub added : List ℕ → TableCells → List (List ValueRef) × PoolInUse → Change → Change
added name t r b = with_stored name t.columns r.0 r.1 b

-- another table is as it was
pub stays_at : (name other : List ℕ) (columns : List ColumnDef) (rows : List (List ValueRef)) (pool : PoolInUse) (b : Change) → bytes_eq name other ≡ false
    → table_at other (with_stored name columns rows pool b).database ≡ table_at other b.database
stays_at name other columns rows pool b apart = put_elsewhere name other (record { columns = columns; rows = Some (in_stored_order columns rows) }) b.database apart

-- A CREATE

module _ (d : Database) (name : List ℕ) (columns : List ColumnDef) (c t v : TableCells) (c_at : table_at columns_name d ≡ Some c) (t_at : table_at tables_name d ≡ Some t) (v_at : table_at validation_name d ≡ Some v) where
  abbrev pub c_rows : List (List Value)
  c_rows = column_rows name columns

  abbrev pub t_rows : List (List Value)
  t_rows = (Str name ∷ []) ∷ []

  abbrev pub v_rows : List (List Value)
  v_rows = validation_rows name columns

  module _ (one two three : List (List ValueRef) × PoolInUse) where
    abbrev pub first : Change
    first = added columns_name c one (no_change d)

    abbrev pub second : Change
    second = added tables_name t two first

    abbrev pub third : Change
    third = added validation_name v three second

    pub first_inserted : first_refusal (row_refusals d.pool.places c c_rows) ≡ None → cells_added d.pool.long c.columns (pool_of (no_change d)) (rows_of c) c_rows ≡ Some one → rows_inserted columns_name c_rows (no_change d) ≡ Ok first
    first_inserted passed put = inserted_by_cells (no_change d) columns_name c c_rows one.0 one.1 c_at passed put

    t_there : table_at tables_name first.database ≡ Some t
    t_there = stays_at columns_name tables_name c.columns one.0 one.1 (no_change d) refl ∙ t_at

    pub second_inserted : first_refusal (row_refusals one.1.places t t_rows) ≡ None → cells_added d.pool.long t.columns one.1 (rows_of t) t_rows ≡ Some two → rows_inserted tables_name t_rows first ≡ Ok second
    second_inserted passed put = inserted_by_cells first tables_name t t_rows two.0 two.1 t_there passed put

    v_there : table_at validation_name second.database ≡ Some v
    v_there = stays_at tables_name validation_name t.columns two.0 two.1 first refl
        ∙ stays_at columns_name validation_name c.columns one.0 one.1 (no_change d) refl ∙ v_at

    pub third_inserted : first_refusal (row_refusals two.1.places v v_rows) ≡ None → cells_added d.pool.long v.columns two.1 (rows_of v) v_rows ≡ Some three → rows_inserted validation_name v_rows second ≡ Ok third
    third_inserted passed put = inserted_by_cells second validation_name v v_rows three.0 three.1 v_there passed put

    pub create_by_steps : first_refusal (sound_refusal d ++ table_refusals d name columns) ≡ None
        → first_refusal (row_refusals d.pool.places c c_rows) ≡ None → cells_added d.pool.long c.columns (pool_of (no_change d)) (rows_of c) c_rows ≡ Some one
        → first_refusal (row_refusals one.1.places t t_rows) ≡ None → cells_added d.pool.long t.columns one.1 (rows_of t) t_rows ≡ Some two
        → first_refusal (row_refusals two.1.places v v_rows) ≡ None → cells_added d.pool.long v.columns two.1 (rows_of v) v_rows ≡ Some three
        → create_at_width d name columns ≡ Ok (with_new_table name columns third)
    create_by_steps passed p₁ e₁ p₂ e₂ p₃ e₃ = create_made d name columns first second third passed (first_inserted p₁ e₁) (second_inserted p₂ e₂) (third_inserted p₃ e₃)

-- A DROP

-- the change after the rows about a table went
abbrev pub forgotten : List ℕ → List Place → List ℕ → TableCells → Change → Change
forgotten name places system t b = with_stored system t.columns (filter (λ row. not (is_row_about places name row)) (rows_of t)) (rows_released (pool_of b) (filter (is_row_about places name) (rows_of t))) b

forgotten_is : (name : List ℕ) (places : List Place) (system : List ℕ) (t : TableCells) (b : Change) → table_at system b.database ≡ Some t → rows_forgotten name places system b ≡ forgotten name places system t b
forgotten_is name places system t b e = rw e refl

forgotten_none : (name : List ℕ) (places : List Place) (system : List ℕ) (b : Change) → table_at system b.database ≡ None → rows_forgotten name places system b ≡ b
forgotten_none name places system b e = rw e refl

pub drop_passes : (d : Database) (name : List ℕ) → is_sound d ≡ true → is_system_table name ≡ false → is_table_name name ≡ true
    → first_refusal (sound_refusal d ++ (is_system_table name, InvalidInput) ∷ (not (is_table_name name), InvalidInput) ∷ []) ≡ None
drop_passes d name sound free named = rw (sound, free, named) refl

module _ (d : Database) (name : List ℕ) (gone c t : TableCells) (passed : first_refusal (sound_refusal d ++ (is_system_table name, InvalidInput) ∷ (not (is_table_name name), InvalidInput) ∷ []) ≡ None)
    (free : is_system_table name ≡ false) (at : table_at name d ≡ Some gone) (c_at : table_at columns_name d ≡ Some c) (t_at : table_at tables_name d ≡ Some t) where
  abbrev pub released : Change
  released = table_released name gone (no_change d)

  abbrev steps : Change → Change
  steps b = rows_forgotten name d.pool.places tables_name (rows_forgotten name d.pool.places columns_name (rows_forgotten name d.pool.places validation_name b))

  dropped_is : drop_table d name ≡ Ok (steps released)
  dropped_is =
      let last : Change → TableCells → Result Change ErrorKind = λ c t. Ok (fold (λ c system. rows_forgotten name d.pool.places system c) (table_released name t c) (validation_name ∷ columns_name ∷ tables_name ∷ [])) in
      goes_on (sound_refusal d ++ (is_system_table name, InvalidInput) ∷ (not (is_table_name name), InvalidInput) ∷ []) (no_change d) (λ c. or_refused NotFound (table_at name d) >>= last c) passed
      ∙ found NotFound (table_at name d) gone (last (no_change d)) at

  -- a system table is as it was
  released_at : (system : List ℕ) → bytes_eq name system ≡ false → table_at system released.database ≡ table_at system d
  released_at system apart = maps.find_without_other names_total list_cmp_exact system name d.tables (apart_names name system apart)

  abbrev parts : (is_schema_table name ≡ false) × (bytes_eq name validation_name ≡ false)
  parts = or_parts (is_schema_table name) (bytes_eq name validation_name) free

  abbrev names : (bytes_eq name tables_name ≡ false) × (bytes_eq name columns_name ≡ false)
  names = or_parts (bytes_eq name tables_name) (bytes_eq name columns_name) parts.0

  -- the name is none of a system table
  pub dropped_apart : (bytes_eq validation_name name ≡ false) × (bytes_eq columns_name name ≡ false) × (bytes_eq tables_name name ≡ false)
  dropped_apart = (texts_flip validation_name name ∙ parts.1, texts_flip columns_name name ∙ names.1, texts_flip tables_name name ∙ names.0)

  -- with `_Validation`
  module _ (v : TableCells) (v_at : table_at validation_name d ≡ Some v) where
    abbrev pub without_validation : Change
    without_validation = forgotten name d.pool.places validation_name v released

    abbrev pub without_columns : Change
    without_columns = forgotten name d.pool.places columns_name c without_validation

    pub drop_by_steps : drop_table d name ≡ Ok (forgotten name d.pool.places tables_name t without_columns)
    drop_by_steps =
        let kept = filter (λ row. not (is_row_about d.pool.places name row)) in
        let v_now = forgotten_is name d.pool.places validation_name v released (released_at validation_name parts.1 ∙ v_at) in
        let c_now = forgotten_is name d.pool.places columns_name c without_validation
        (stays_at validation_name columns_name v.columns (kept (rows_of v)) (rows_released (pool_of released) (filter (is_row_about d.pool.places name) (rows_of v))) released refl
        ∙ released_at columns_name names.1 ∙ c_at) in
        let t_now = forgotten_is name d.pool.places tables_name t without_columns
        (stays_at columns_name tables_name c.columns (kept (rows_of c)) (rows_released (pool_of without_validation) (filter (is_row_about d.pool.places name) (rows_of c))) without_validation refl
        ∙ stays_at validation_name tables_name v.columns (kept (rows_of v)) (rows_released (pool_of released) (filter (is_row_about d.pool.places name) (rows_of v))) released refl
        ∙ released_at tables_name names.0 ∙ t_at) in
        dropped_is ∙ ap Ok (ap (λ (b : Change). rows_forgotten name d.pool.places tables_name (rows_forgotten name d.pool.places columns_name b)) v_now
        ∙ ap (λ (b : Change). rows_forgotten name d.pool.places tables_name b) c_now ∙ t_now)

  -- and without it
  module _ (v_none : table_at validation_name d ≡ None) where
    abbrev pub without_columns_alone : Change
    without_columns_alone = forgotten name d.pool.places columns_name c released

    pub drop_by_two_steps : drop_table d name ≡ Ok (forgotten name d.pool.places tables_name t without_columns_alone)
    drop_by_two_steps =
        let kept = filter (λ row. not (is_row_about d.pool.places name row)) in
        let v_now = forgotten_none name d.pool.places validation_name released (released_at validation_name parts.1 ∙ v_none) in
        let c_now = forgotten_is name d.pool.places columns_name c released (released_at columns_name names.1 ∙ c_at) in
        let t_now = forgotten_is name d.pool.places tables_name t without_columns_alone
        (stays_at columns_name tables_name c.columns (kept (rows_of c)) (rows_released (pool_of released) (filter (is_row_about d.pool.places name) (rows_of c))) released refl
        ∙ released_at tables_name names.0 ∙ t_at) in
        dropped_is ∙ ap Ok (ap (λ (b : Change). rows_forgotten name d.pool.places tables_name (rows_forgotten name d.pool.places columns_name b)) v_now
        ∙ ap (λ (b : Change). rows_forgotten name d.pool.places tables_name b) c_now ∙ t_now)
