-- A table with one more column, in which its rows have null: what it keeps.
use Rattle.std.proofs.Common.{◌≡◌, ℕ, ◌+◌, ◌<◌, Bool, true, false, cond, List, [], ◌∷◌, ◌++◌, length, map, Option, Some, None, is_some, option_map, refl, sym, ap, subst, ◌∙◌, arith, ◌==◌, ⊎_elim, bytes_eq}
use Rattle.std.specs.Prelude.{◌&&◌, if◌then◌else◌, unwrap_or, IsSomeAnd}
use Rattle.std.specs.List.{AllByRecursion, list_all}
use Rattle.std.specs.Option as options
use Rattle.std.specs.Ordering.{eq_by_cmp, is_eq}
use Rattle.std.specs.Cmp.{tied_itself}
use Rattle.std.specs.Cmp.Lexicographic.{nat_list_cmp_total}
use Rattle.std.specs.FinMap.Entries.{find-put, is_sorted-put}
use Rattle.std.proofs.lemmas.Bool.{and_parts, and_from, cases_Bool}
use Rattle.std.proofs.lemmas.Bool.Decides.{nat_tests}
use Rattle.std.proofs.lemmas.List.{length-append, length-map, map-append}
use Rattle.std.proofs.lemmas.Option.{same_Some}
use Rattle.msi_base.specs.Lists.{has_pair, list_cmp}
use Rattle.msi_base.proofs.BoolLemmas.{by_test}
use Rattle.msi_pool.specs.Pool.{Place}
use Rattle.msi_table_values.specs.declared.value.Value.{Value}
use Rattle.msi_table_values.specs.declared.value.Value.TheVariants as value
use Rattle.msi_table_values.specs.declared.column.ColumnType.{ColumnType}
use Rattle.msi_table_cells.specs.declared.cell.ValueRef.{ValueRef}
use Rattle.msi_table_cells.specs.declared.cell.ValueRef.TheVariants as cell
use Rattle.msi_table_values.specs.Columns.{ColumnDef, types_of}
use Rattle.msi_table_cells.specs.CellValues.{row_values, value_of_cell}
use Rattle.msi_table_cells.specs.Fitting.{FitsColumn, FitsRow, FitsTable}
use Rattle.msi_table_cells.specs.KeyOrder.{key_of, same_key}
use Rattle.msi_table_cells.specs.TableCells.{TableCells}
use Rattle.msi_database_schema.specs.Keys.{is_table_name}
use Rattle.msi_database_schema.specs.System.{validation_name, validation_columns}
use Rattle.msi_database_schema.proofs.FaultLemmas.{texts_flip}
use Rattle.msi_database_schema.proofs.AccountLemmas.{Enough}
use Rattle.msi_query.specs.Rows.{table_values}
use Rattle.msi_database_changes.specs.Database.{Database, are_alike, is_sound, rows_of, table_at, values_of, with_table}
use Rattle.msi_database_changes.specs.Changes.{Change}
use Rattle.msi_database_changes.specs.AddColumn.{with_column, with_new_column, with_nulls}
use Rattle.msi_database_changes.specs.Laws.{KeysAreDistinct, rows_at}
use Rattle.msi_database_changes.proofs.steps.TurnLemmas.{total, total-append}
use Rattle.msi_database_changes.proofs.steps.StoredLemmas.{WellFormed, all-put, rows_are_full, rows_full, sound_parts, sound_whole, table_is_full}
use Rattle.msi_database_changes.proofs.steps.TracksLemmas.{AllFit, TableFits, Tracks, last_named, not_last}
use Rattle.msi_database_changes.proofs.text_counts.CellLemmas.{cell_uses}
use Rattle.msi_database_changes.proofs.text_counts.RowsLemmas.{row_uses, rows_uses}
use Rattle.msi_database_changes.proofs.text_counts.TablesLemmas.{database_uses, table_uses, total-put}
use Rattle.msi_database_changes.proofs.soundness.SoundLemmas.{enough_from_sound, exact_from, exact_to, sound_from_enough}
use Rattle.msi_database_changes.proofs.describing.DescribingLemmas.{put_elsewhere, rows_at_is}
use Rattle.msi_database_changes.proofs.table_changes.DropLemmas.{Keeps}

-- ITS ROWS

longer_rows : (o : Option (List (List ValueRef))) → unwrap_or (option_map with_nulls o) [] ≡ with_nulls (unwrap_or o [])
longer_rows None = refl
longer_rows (Some rows) = refl

pub rows_longer : (column : ColumnDef) (t : TableCells) → rows_of (with_column column t) ≡ with_nulls (rows_of t)
rows_longer column t = longer_rows t.rows

null_uses : (row : List ValueRef) (n : ℕ) → row_uses (row ++ cell.Null ∷ []) n ≡ row_uses row n
null_uses row n = let none : total cell_uses (cell.Null ∷ []) n ≡ 0 = refl in omega (arith, total-append cell_uses row (cell.Null ∷ []) n, none)

nulls_uses : (rows : List (List ValueRef)) (n : ℕ) → rows_uses (with_nulls rows) n ≡ rows_uses rows n
nulls_uses [] n = refl
nulls_uses (row ∷ rows) n = omega (arith, null_uses row n, nulls_uses rows n)

longer_uses : (column : ColumnDef) (t : TableCells) (n : ℕ) → table_uses (with_column column t) n ≡ table_uses t n
longer_uses column t n = ap (λ (rows : List (List ValueRef)). rows_uses rows n) (rows_longer column t) ∙ nulls_uses (rows_of t) n

longer_full : (columns : List ColumnDef) (column : ColumnDef) (row : List ValueRef) → (length row == length columns) ≡ true → (length (row ++ cell.Null ∷ []) == length (columns ++ column ∷ [])) ≡ true
longer_full columns column row h =
    let one : length (row ++ cell.Null ∷ []) ≡ length row + 1 = length-append row (cell.Null ∷ []) in
    let two : length (columns ++ column ∷ []) ≡ length columns + 1 = length-append columns (column ∷ []) in
    grind (arith, nat_tests, one, two, h)

nulls_full : (columns : List ColumnDef) (column : ColumnDef) (rows : List (List ValueRef)) → rows_are_full columns rows ≡ true → rows_are_full (columns ++ column ∷ []) (with_nulls rows) ≡ true
nulls_full columns column [] h = refl
nulls_full columns column (row ∷ rows) h =
    let p = and_parts (length row == length columns) (rows_are_full columns rows) h in
    and_from (length (row ++ cell.Null ∷ []) == length (columns ++ column ∷ [])) (rows_are_full (columns ++ column ∷ []) (with_nulls rows)) (longer_full columns column row p.0) (nulls_full columns column rows p.1)

table_full : (columns : List ColumnDef) (column : ColumnDef) (t : TableCells) → rows_are_full t.columns (rows_of t) ≡ true → rows_are_full (t.columns ++ column ∷ []) (rows_of (with_column column t)) ≡ true
table_full columns column t h = ap (rows_are_full (t.columns ++ column ∷ [])) (rows_longer column t) ∙ nulls_full t.columns column (rows_of t) h

still_rows : (o : Option (List (List ValueRef))) → is_some (option_map with_nulls o) ≡ is_some o
still_rows None = refl
still_rows (Some rows) = refl

-- as values
row_longer : (places : List Place) (row : List ValueRef) → row_values places (row ++ cell.Null ∷ []) ≡ row_values places row ++ value.Null ∷ []
row_longer places row = map-append (value_of_cell places) row (cell.Null ∷ [])

pub values_longer : (places : List Place) (rows : List (List ValueRef)) → map (row_values places) (with_nulls rows) ≡ map (λ row. row ++ value.Null ∷ []) (map (row_values places) rows)
values_longer places [] = refl
values_longer places (row ∷ rows) = λ i. row_longer places row i ∷ values_longer places rows i

-- KEYS

key_longer : (columns : List ColumnDef) (column : ColumnDef) (row : List Value) → column.is_primary_key ≡ false → length row ≡ length columns → key_of (columns ++ column ∷ []) (row ++ value.Null ∷ []) ≡ key_of columns row
key_longer [] column [] no_key same = rw no_key refl
key_longer [] column (v ∷ vs) no_key same = absurd (omega (arith, same))
key_longer (c ∷ cs) column [] no_key same = absurd (omega (arith, same))
key_longer (c ∷ cs) column (v ∷ vs) no_key same =
    let rest : key_of (cs ++ column ∷ []) (vs ++ value.Null ∷ []) ≡ key_of cs vs = key_longer cs column vs no_key (omega (arith, same)) in
    λ i. if c.is_primary_key then v ∷ rest i else rest i

keys_longer : (columns : List ColumnDef) (column : ColumnDef) (places : List Place) (rows : List (List ValueRef)) → column.is_primary_key ≡ false → rows_are_full columns rows ≡ true
    → map (key_of (columns ++ column ∷ [])) (map (row_values places) (with_nulls rows)) ≡ map (key_of columns) (map (row_values places) rows)
keys_longer columns column places [] no_key full = refl
keys_longer columns column places (row ∷ rows) no_key full =
    let p = and_parts (length row == length columns) (rows_are_full columns rows) full in
    let cells : length row ≡ length columns = grind (arith, nat_tests, p) in
    let many : length (row_values places row) ≡ length columns = rw length-map cells in
    let here : key_of (columns ++ column ∷ []) (row_values places (row ++ cell.Null ∷ [])) ≡ key_of columns (row_values places row) =
    ap (key_of (columns ++ column ∷ [])) (row_longer places row) ∙ key_longer columns column (row_values places row) no_key many in
    λ i. here i ∷ keys_longer columns column places rows no_key p.1 i

-- FITTING

fits_longer : (long : Bool) (types : List ColumnType) (type : ColumnType) (row : List ValueRef) → FitsColumn long type cell.Null → FitsRow long types row → FitsRow long (types ++ type ∷ []) (row ++ cell.Null ∷ [])
fits_longer long [] type [] null h = (null, tt)
fits_longer long [] type (x ∷ xs) null h = absurd h
fits_longer long (t ∷ ts) type [] null h = absurd h
fits_longer long (t ∷ ts) type (x ∷ xs) null h = (h.0, fits_longer long ts type xs null h.1)

rows_fit_longer : (long : Bool) (types : List ColumnType) (type : ColumnType) (rows : List (List ValueRef)) → FitsColumn long type cell.Null → AllByRecursion (FitsRow long types) rows → AllByRecursion (FitsRow long (types ++ type ∷ [])) (with_nulls rows)
rows_fit_longer long types type [] null h = tt
rows_fit_longer long types type (row ∷ rows) null h = (fits_longer long types type row null h.0, rows_fit_longer long types type rows null h.1)

pub table_fits_longer : (long : Bool) (columns : List ColumnDef) (column : ColumnDef) (rows : List (List ValueRef)) → FitsColumn long column.coltype cell.Null → FitsTable long (types_of columns) rows
    → FitsTable long (types_of (columns ++ column ∷ [])) (with_nulls rows)
table_fits_longer long columns column rows null h =
    let many : length (types_of columns ++ column.coltype ∷ []) ≡ length (types_of columns) + 1 = length-append (types_of columns) (column.coltype ∷ []) in
    subst (λ (types : List ColumnType). FitsTable long types (with_nulls rows)) (sym (map-append (λ (c : ColumnDef). c.coltype) columns (column ∷ []))) (record {
      some_column = omega (arith, many);
      few_rows = rw length-map h.few_rows;
      each_row = rows_fit_longer long (types_of columns) column.coltype rows null h.each_row;
    })

there_fits_longer : (long : Bool) (columns : List ColumnDef) (column : ColumnDef) (o : Option (List (List ValueRef))) → FitsColumn long column.coltype cell.Null → IsSomeAnd o (FitsTable long (types_of columns))
    → IsSomeAnd (option_map with_nulls o) (FitsTable long (types_of (columns ++ column ∷ [])))
there_fits_longer long columns column None null h = absurd h
there_fits_longer long columns column (Some rows) null h = table_fits_longer long columns column rows null h

-- THE DATABASE

module _ (d : Database) (name : List ℕ) (column : ColumnDef) (t : TableCells) (found : table_at name d ≡ Some t) where
  abbrev longer : TableCells
  longer = with_column column t

  abbrev now : Database
  now = with_table name longer d

  abbrev standard_at : Option TableCells → Bool
  standard_at o = options.option_map_or (λ t. are_alike t.columns validation_columns) o true

  module _ (apart : bytes_eq name validation_name ≡ false) (sound : is_sound d ≡ true) (well : WellFormed d) where
    uses_now : (n : ℕ) → database_uses now n ≡ database_uses d n
    uses_now n = omega (arith, total-put list_cmp nat_list_cmp_total table_uses name t longer d.tables n well.in_order found, longer_uses column t n)

    enough_then : Enough d.pool.places (database_uses d)
    enough_then = let p = sound_parts d sound in enough_from_sound d p.suffice p.in_pool well.numbers

    pub longer_keeps : Keeps d now
    longer_keeps =
        let p = sound_parts d sound in
        let counts = sound_from_enough now (λ n. omega (arith, enough_then n, uses_now n)) in record {
          sound = sound_whole now (record {
            suffice = counts.suffice;
            in_pool = counts.in_pool;
            width = p.width;
            readable = all-put list_cmp nat_list_cmp_total (λ t. is_some t.1.rows && is_table_name t.0) name t longer
                (λ key h. ap (λ b. b && is_table_name key) (still_rows t.rows) ∙ h) d.tables well.in_order found p.readable;
            standard = ap standard_at (put_elsewhere name validation_name longer d apart) ∙ p.standard;
          });
          well = record {
            numbers = counts.numbers;
            in_order = is_sorted-put list_cmp nat_list_cmp_total name longer d.tables well.in_order;
            full = all-put list_cmp nat_list_cmp_total table_is_full name t longer (λ key h. table_full t.columns column t h) d.tables well.in_order found well.full;
          };
          exact = λ exact. exact_to now (λ n. omega (arith, exact_from d enough_then exact n, uses_now n));
        }

  found_now : (other : List ℕ) → table_at other now ≡ cond (eq_by_cmp list_cmp other name) (Some longer) (table_at other d)
  found_now other = find-put list_cmp nat_list_cmp_total other name longer d.tables

  pub longer_there : table_at name now ≡ Some longer
  longer_there = found_now name ∙ ap (λ r. cond (is_eq r) (Some longer) (table_at name d)) (tied_itself nat_list_cmp_total name)

  -- each row has null more, and other tables have their rows
  pub longer_values : rows_at name now ≡ map (λ row. row ++ value.Null ∷ []) (rows_at name d)
  longer_values = rows_at_is name now longer longer_there ∙ ap (map (row_values d.pool.places)) (rows_longer column t) ∙ values_longer d.pool.places (rows_of t)
      ∙ ap (map (λ (row : List Value). row ++ value.Null ∷ [])) (sym (rows_at_is name d t found))

  pub longer_elsewhere : (other : List ℕ) → bytes_eq name other ≡ false → values_of now other ≡ values_of d other
  longer_elsewhere other apart = ap (option_map (table_values d.pool.places)) (put_elsewhere name other longer d apart)

  module _ (well : WellFormed d) (no_key : column.is_primary_key ≡ false) (before : KeysAreDistinct d) where
    own_distinct : (other : List ℕ) (u : TableCells) → table_at other now ≡ Some longer → table_at other now ≡ Some u → has_pair same_key (map (key_of u.columns) (rows_at other now)) ≡ false
    own_distinct other u here is = subst (λ (u : TableCells). has_pair same_key (map (key_of u.columns) (rows_at other now)) ≡ false) (same_Some longer u (sym here ∙ is))
        (ap (λ (rs : List (List Value)). has_pair same_key (map (key_of longer.columns) rs)) (rows_at_is other now longer here ∙ ap (map (row_values d.pool.places)) (rows_longer column t))
        ∙ ap (has_pair same_key) (keys_longer t.columns column d.pool.places (rows_of t) no_key (rows_full d name t well found)
        ∙ ap (map (key_of t.columns)) (sym (rows_at_is name d t found)))
        ∙ before name t found)

    other_distinct : (other : List ℕ) (u : TableCells) → table_at other now ≡ table_at other d → table_at other now ≡ Some u → has_pair same_key (map (key_of u.columns) (rows_at other now)) ≡ false
    other_distinct other u there is =
        ap (λ (rs : List (List Value)). has_pair same_key (map (key_of u.columns) rs)) (rows_at_is other now u is ∙ sym (rows_at_is other d u (sym there ∙ is))) ∙ before other u (sym there ∙ is)

    pub longer_distinct : KeysAreDistinct now
    longer_distinct other u is = ⊎_elim
        (λ (same : eq_by_cmp list_cmp other name ≡ true). own_distinct other u (found_now other ∙ ap (λ b. cond b (Some longer) (table_at other d)) same) is)
        (λ (apart : eq_by_cmp list_cmp other name ≡ false). other_distinct other u (found_now other ∙ ap (λ b. cond b (Some longer) (table_at other d)) apart) is)
        (cases_Bool (eq_by_cmp list_cmp other name))

-- A CHANGE

module _ (d : Database) (b : Change) (name : List ℕ) (column : ColumnDef) (t : TableCells) (found : table_at name b.database ≡ Some t) (named : is_table_name name ≡ true)
    (null : FitsColumn b.database.pool.long column.coltype cell.Null) (tracks : Tracks d b) where
  abbrev after : Change
  after = with_new_column name column t b

  fits_now : AllFit b.database → AllFit after.database
  fits_now h other u e =
      let is = sym (found_now b.database name column t found other) ∙ e in
      by_test (eq_by_cmp list_cmp other name)
      (λ same. subst (TableFits b.database.pool.long) (same_Some (with_column column t) u (ap (λ x. cond x (Some (with_column column t)) (table_at other b.database)) (sym same) ∙ is))
      (there_fits_longer b.database.pool.long t.columns column t.rows null (h name t found)))
      (λ apart. h other u (ap (λ x. cond x (Some (with_column column t)) (table_at other b.database)) (sym apart) ∙ is))

  pub tracks_longer : Tracks d after
  tracks_longer = record {
    others = λ other e. let g = not_last other name b.stored e in put_elsewhere name other (with_column column t) b.database (texts_flip name other ∙ g.1) ∙ tracks.others other g.0;
    names = last_named name b.stored named tracks.names;
    kept = tracks.kept;
    unused = tracks.unused;
    long = tracks.long;
    fits = λ h. fits_now (tracks.fits h);
  }
