-- Adding a column, step by step at either width: which rows the tables get, which streams these become, and what is refused.
use Rattle.std.proofs.Common.{◌≡◌, ℕ, ◌≤◌, Bool, true, List, [], ◌∷◌, ◌++◌, length, Option, Some, None, Result, Ok, Err, refl, sym, ap, subst, ◌∙◌, arith, inl, inr, ◌==◌}
use Rattle.std.specs.Prelude.{if◌then◌else◌, IsSomeAnd}
use Rattle.std.specs.Option.{option_map_or}
use Rattle.std.proofs.lemmas.Bool.{and_parts, leb-true}
use Rattle.msi_base.specs.declared.errors.ErrorKind.{ErrorKind}
use Rattle.msi_base.specs.declared.errors.ErrorKind.TheVariants.{NotFound}
use Rattle.msi_base.specs.Refusals.{IsRefusal, first_refusal, ◌>>=◌}
use Rattle.msi_pool.specs.FirstFit.{most_places}
use Rattle.msi_pool.specs.Pool.{Pool}
use Rattle.msi_table_values.specs.declared.value.Value.{Value}
use Rattle.msi_table_cells.specs.declared.cell.ValueRef.{ValueRef}
use Rattle.msi_table_cells.specs.Fitting.{FitsTable}
use Rattle.msi_table_cells.specs.TableCells.{TableCells}
use Rattle.msi_table_cells.proofs.StoredValuesLemmas.{fits_null}
use Rattle.msi_table_values.specs.Columns.{ColumnDef, types_of}
use Rattle.msi_table.specs.Cells.{table_bytes}
use Rattle.msi_table.specs.Tables.{TableDef}
use Rattle.msi_database_schema.specs.Keys.{table_key}
use Rattle.msi_database_schema.specs.System.{columns_name, validation_name}
use Rattle.msi_database_changes.specs.AddColumn.{ColumnRows, add_column_at_width, early_column_refusals, with_column, with_new_column, with_nulls}
use Rattle.msi_database_changes.specs.Changes.{Change, no_change, pool_of, with_stored}
use Rattle.msi_database_changes.specs.Database.{Database, is_sound, rows_of, table_at}
use Rattle.msi_database_changes.specs.Insert.{rows_inserted, table_with}
use Rattle.msi_database_changes.specs.Storing.{HaveOwnNames}
use Rattle.msi_database_changes.specs.Texts.{PoolInUse}
use Rattle.msi_database_changes.specs.Widening.{widened}
use Rattle.msi_database_changes.specs.declared.storing.Stored.{Stored}
use Rattle.msi_database_changes.proofs.steps.AtWidthLemmas.{column_added, sound_widened}
use Rattle.msi_database_changes.proofs.steps.RefusedLemmas.{bind_ok, same_Ok}
use Rattle.msi_database_changes.proofs.table_changes.ColumnAddedLemmas.{accepts, column_values, validation_values}
use Rattle.msi_database_changes.proofs.table_changes.LongerTableLemmas.{rows_longer, table_fits_longer}
use Rattle.msi_database_storage.specs.Kept.{Kept, database_kept, kept_of, kept_widened, with_change, with_table_kept, without_table_kept}
use Rattle.msi_database_storage.specs.Storing.{stored_in, tables_stored}
use Rattle.msi_database_storage.specs.Streams.{Streams, stream_of_rows, table_stream}
use Rattle.msi_database_storage.proofs.EditLemmas.{column_stored}
use Rattle.msi_database.specs.AddingColumn.{CanHoldColumn, column_streams, rows_for_column, rows_lengthened, tables_over}
use Rattle.msi_database.specs.Creating.{columns_at, new_table, rows_with}
use Rattle.msi_database.specs.Keeping.{AreKept, AreParts, IsKeptDatabase}
use Rattle.msi_database.specs.Listed.{tables_listed}
use Rattle.msi_database.specs.Making.{TellsUse}
use Rattle.msi_database.proofs.calls.AcceptedCallLemmas.{found, inserted_by_cells}
use Rattle.msi_database.proofs.calls.ColumnCallLemmas.{column_first_refused, column_made, column_second_refused}
use Rattle.msi_database.proofs.calls.FinishedChangeLemmas.{column_kept, known_sound}
use Rattle.msi_database.proofs.keeping.AcceptedChangeLemmas.{regular}
use Rattle.msi_database.proofs.keeping.OwnNamesLemmas.{change_own_names, column_apart}
use Rattle.msi_database.proofs.keeping.TablesKeptLemmas.{listed_kept}
use Rattle.msi_database.proofs.soundness.SoundLemmas.{sound_is}
use Rattle.msi_database.proofs.table_changes.CreatingCallLemmas.{bind_err, stream_refused}
use Rattle.msi_database.proofs.table_changes.TableChangeStepsLemmas.{stays_at}
use Rattle.msi_database.proofs.widths.CreatingAtBothWidthsLemmas.{IsKeptHere, Took, grew, narrowed, one_err, rows_fit_there, stored_here, took, within_long}
use Rattle.msi_database.proofs.widths.RowsAtBothWidthsLemmas.{own_parts}
use Rattle.msi_database.proofs.widths.TablesAtBothWidthsLemmas.{MakesAt}
use Rattle.msi_database.proofs.widths.WideningLemmas.{widened_kept}

-- WHAT AN ANSWER SAYS OF THE STEPS TO IT

pub record Described (d : Database) (name : List ℕ) (t : TableCells) (column : ColumnDef) (pool : PoolInUse) (x : ColumnRows × PoolInUse) : Type 0 where
  pub c : List (List ValueRef) × PoolInUse
  pub c_took : Took d columns_name (column_values name t column) pool c
  pub v : List (List ValueRef) × PoolInUse
  pub v_took : Took d validation_name (validation_values name column) c.1 v
  pub is : ◌≡◌ {A = ColumnRows × PoolInUse} (record { columns = c.0; validation = v.0; own = with_nulls (rows_of t) }, v.1) x

abbrev last_rows : TableCells → List (List ValueRef) → List (List ValueRef) × PoolInUse → Result (ColumnRows × PoolInUse) ErrorKind
last_rows t c v = Ok (record { columns = c; validation = v.0; own = with_nulls (rows_of t) }, v.1)

abbrev second_rows : Database → List ℕ → TableCells → ColumnDef → List (List ValueRef) × PoolInUse → Result (ColumnRows × PoolInUse) ErrorKind
second_rows d name t column c = rows_with d validation_name (validation_values name column) c.1 >>= last_rows t c.0

pub described : (d : Database) (name : List ℕ) (t : TableCells) (column : ColumnDef) (pool : PoolInUse) (x : ColumnRows × PoolInUse) → rows_for_column d name column pool t ≡ Ok x → Described d name t column pool x
described d name t column pool x e =
    bind_ok (rows_with d columns_name (column_values name t column) pool) (second_rows d name t column) x e (λ c c_is e.
    bind_ok (rows_with d validation_name (validation_values name column) c.1) (last_rows t c.0) x e (λ v v_is e. record {
      c = c;
      c_took = took d columns_name (column_values name t column) pool c c_is;
      v = v;
      v_took = took d validation_name (validation_values name column) c.1 v v_is;
      is = same_Ok (record { columns = c.0; validation = v.0; own = with_nulls (rows_of t) }, v.1) x e;
    }))

-- WHAT CAN BE STORED

module _ (k : Kept) (kept : IsKeptDatabase k) (sound : is_sound k.database ≡ true) (name : List ℕ) (t : TableCells) (column : ColumnDef) (x : ColumnRows × PoolInUse)
    (s : Described k.database name t column (pool_of (no_change k.database)) x) where
  abbrev d : Database
  d = k.database

  abbrev begin : PoolInUse
  begin = pool_of (no_change d)

  start_within : length d.pool.places ≤ most_places d.pool.long
  start_within = leb-true (length d.pool.places) (most_places d.pool.long) (sound_is d sound).fits

  fit : IsKeptHere d
  fit = (regular k kept sound).fit

  v_grew : length s.c.1.places ≤ length s.v.1.places
  v_grew = grew d validation_name (validation_values name column) s.c.1 s.v s.v_took

  last_is : s.v.1 ≡ x.1
  last_is = ap (λ (x : ColumnRows × PoolInUse). x.1) s.is

  -- three bytes can name all places
  pub places_long : d.pool.long ≡ true → length x.1.places ≤ 16777215
  places_long long =
      let w0 : length d.pool.places ≤ 16777215 = subst (λ l. length d.pool.places ≤ most_places l) long start_within in
      let w1 = within_long d columns_name (column_values name t column) begin s.c s.c_took fit long w0 in
      let w2 = within_long d validation_name (validation_values name column) s.c.1 s.v s.v_took fit long w1 in
      subst (λ (p : PoolInUse). length p.places ≤ 16777215) last_is w2

  module _ (at : table_at name d ≡ Some t) (passed : first_refusal (early_column_refusals d name column) ≡ None) (few : length x.1.places ≤ most_places d.pool.long) where
    v_few : length s.v.1.places ≤ most_places d.pool.long
    v_few = subst (λ (p : PoolInUse). length p.places ≤ most_places d.pool.long) (sym last_is) few

    c_few : length s.c.1.places ≤ most_places d.pool.long
    c_few = omega (arith, v_grew, v_few)

    pub hold_column : CanHoldColumn d (t.columns ++ column ∷ []) x.0
    hold_column = subst (λ (x : ColumnRows × PoolInUse). CanHoldColumn d (t.columns ++ column ∷ []) x.0) s.is (record {
      described = stored_here d columns_name (column_values name t column) begin s.c s.c_took fit start_within c_few;
      validated = stored_here d validation_name (validation_values name column) s.c.1 s.v s.v_took fit c_few v_few;
      own = table_fits_longer d.pool.long t.columns column (rows_of t) (fits_null d.pool.long column.coltype (and_parts column.is_nullable _ (accepts d name t column passed at).takes_null).1)
          (rows_fit_there t.rows (FitsTable d.pool.long (types_of t.columns)) (fit name t at));
    })

-- WHAT IS MADE, with references of the width that there is

pub record Adds (k : Kept) (name : List ℕ) (column : ColumnDef) (columns : List ColumnDef) (es : List Stored) (used : PoolInUse) : Type 0 where
  pub makes : (new : Pool) → new ≡ record k.database.pool { places = used.places } → MakesAt k (add_column_at_width k.database name column) new (tables_over k.database name columns) es
  pub tells : TellsUse (add_column_at_width k.database name column) used.is_used
  pub own : HaveOwnNames es

columns_are : (d : Database) (name : List ℕ) (t : TableCells) → table_at name d ≡ Some t → columns_at name d ≡ t.columns
columns_are d name t at = ap (λ (o : Option TableCells). option_map_or (λ t. t.columns) o []) at

module _ (pool : Pool) (tables : List TableDef) (streams : Streams) (kept : AreKept pool tables streams true) (name : List ℕ) (t : TableCells) (column : ColumnDef) where
  abbrev old : Kept
  old = kept_of pool tables streams

  abbrev was : Database
  was = database_kept pool tables streams

  abbrev all : List ColumnDef
  all = t.columns ++ column ∷ []

  module _ (at : table_at name was ≡ Some t) (passed : first_refusal (early_column_refusals was name column) ≡ None) (x : ColumnRows × PoolInUse) (s : Described was name t column (pool_of (no_change was)) x)
      (few : length x.1.places ≤ most_places pool.long) where
    v_few₂ : length s.v.1.places ≤ most_places pool.long
    v_few₂ = subst (λ (p : PoolInUse). length p.places ≤ most_places pool.long) (sym (ap (λ (x : ColumnRows × PoolInUse). x.1) s.is)) few

    c_few₂ : length s.c.1.places ≤ most_places pool.long
    c_few₂ = omega (arith, grew was validation_name (validation_values name column) s.c.1 s.v s.v_took, v_few₂)

    abbrev first : Change
    first = with_stored columns_name s.c_took.t.columns s.c.0 s.c.1 (no_change was)

    abbrev second : Change
    second = with_stored validation_name s.v_took.t.columns s.v.0 s.v.1 first

    first_is : rows_inserted columns_name (column_values name t column) (no_change was) ≡ Ok first
    first_is = inserted_by_cells (no_change was) columns_name s.c_took.t (column_values name t column) s.c.0 s.c.1 s.c_took.at s.c_took.passed
        (narrowed was columns_name (column_values name t column) (pool_of (no_change was)) s.c s.c_took c_few₂)

    second_is : rows_inserted validation_name (validation_values name column) first ≡ Ok second
    second_is = inserted_by_cells first validation_name s.v_took.t (validation_values name column) s.v.0 s.v.1
        (stays_at columns_name validation_name s.c_took.t.columns s.c.0 s.c.1 (no_change was) refl ∙ s.v_took.at) s.v_took.passed
        (narrowed was validation_name (validation_values name column) s.c.1 s.v s.v_took v_few₂)

    abbrev after : Change
    after = with_new_column name column t second

    made : add_column_at_width was name column ≡ Ok after
    made = column_made was name column t passed at first second first_is second_is

    own_bytes : table_stream pool.long (Some (table_with all (with_nulls (rows_of t)))) ≡ table_stream pool.long (Some (with_column column t))
    own_bytes = ap (λ (rows : List (List ValueRef)). if length rows == 0 then None else Some (table_bytes pool.long (types_of all) rows)) (sym (rows_longer column t))

    edits : column_streams was name all (record { columns = s.c.0; validation = s.v.0; own = with_nulls (rows_of t) }) ≡ tables_stored after.database after.stored
    edits = (λ i. record { name = table_key columns_name; bytes = stream_of_rows pool.long (columns_are was columns_name s.c_took.t s.c_took.at i) s.c.0 }
        ∷ record { name = table_key validation_name; bytes = stream_of_rows pool.long (columns_are was validation_name s.v_took.t s.v_took.at i) s.v.0 }
        ∷ record { name = table_key name; bytes = own_bytes i } ∷ [])
        ∙ sym (column_stored was name column t s.c_took.t.columns s.v_took.t.columns s.c.0 s.v.0 s.c.1 s.v.1 (column_apart was name column after made))

    adds_by : Adds old name column all (column_streams was name all (record { columns = s.c.0; validation = s.v.0; own = with_nulls (rows_of t) })) s.v.1
    adds_by = record {
      makes = λ new new_is. subst (λ (r : Result Change ErrorKind). MakesAt old r new (tables_over was name all) (column_streams was name all (record { columns = s.c.0; validation = s.v.0; own = with_nulls (rows_of t) }))) (sym made) (
        subst (λ (ts : List TableDef). AreParts (with_change old after) new (with_table_kept (new_table was name all) (without_table_kept name ts)) (stored_in (column_streams was name all (record { columns = s.c.0; validation = s.v.0; own = with_nulls (rows_of t) })) streams))
            (sym (listed_kept pool tables streams kept.as_long))
            (column_kept pool tables streams kept name column t after at made new (column_streams was name all (record { columns = s.c.0; validation = s.v.0; own = with_nulls (rows_of t) })) new_is edits),
        known_sound pool tables streams kept,
      );
      tells = subst (λ (r : Result Change ErrorKind). TellsUse r s.v.1.is_used) (sym made) refl;
      own = subst HaveOwnNames (sym edits) (change_own_names old after kept.kept (known_sound pool tables streams kept) (inr (column_added name column made)));
    }

    pub adds_old : Adds old name column all (column_streams was name all x.0) x.1
    adds_old = subst (λ (y : ColumnRows × PoolInUse). Adds old name column all (column_streams was name all y.0) y.1) s.is adds_by

-- OF ANY KEPT DATABASE

pub adds_at : (k : Kept) → IsKeptDatabase k → is_sound k.database ≡ true → (name : List ℕ) (t : TableCells) (column : ColumnDef) → table_at name k.database ≡ Some t → first_refusal (early_column_refusals k.database name column) ≡ None
    → (x : ColumnRows × PoolInUse) → Described k.database name t column (pool_of (no_change k.database)) x → length x.1.places ≤ most_places k.database.pool.long
    → Adds k name column (t.columns ++ column ∷ []) (column_streams k.database name (t.columns ++ column ∷ []) x.0) x.1
adds_at k kept sound name t column =
    let parts = own_parts k kept sound in
    subst (λ (y : Kept). table_at name y.database ≡ Some t → first_refusal (early_column_refusals y.database name column) ≡ None
    → (x : ColumnRows × PoolInUse) → Described y.database name t column (pool_of (no_change y.database)) x → length x.1.places ≤ most_places y.database.pool.long
    → Adds y name column (t.columns ++ column ∷ []) (column_streams y.database name (t.columns ++ column ∷ []) x.0) x.1)
    parts.0 (adds_old k.database.pool (tables_listed k.database) k.streams parts.1 name t column)

-- WHAT REFUSES ROWS REFUSES THE CHANGE, with references of three bytes

module _ (k : Kept) (kept : IsKeptDatabase k) (sound : is_sound k.database ≡ true) (name : List ℕ) (t : TableCells) (column : ColumnDef) (kind : ErrorKind) where
  abbrev wide : Database
  wide = widened k.database

  abbrev start : PoolInUse
  start = pool_of (no_change wide)

  fit_wide : IsKeptHere wide
  fit_wide = (regular (kept_widened k) (widened_kept k kept sound) (sound_widened k.database sound)).fit

  start_few : length start.places ≤ 16777215
  start_few = leb-true (length start.places) (most_places true) (sound_is wide (sound_widened k.database sound)).fits

  module _ (at : table_at name wide ≡ Some t) (passed : first_refusal (early_column_refusals wide name column) ≡ None) where
    in_columns : rows_with wide columns_name (column_values name t column) start ≡ Err kind → IsRefusal (add_column_at_width wide name column) kind
    in_columns e = column_first_refused wide name column t passed at kind
        (stream_refused wide columns_name (column_values name t column) start (no_change wide) refl refl refl kind (one_err k kept sound name [] kind columns_name (column_values name t column) start e))

    module _ (c : List (List ValueRef) × PoolInUse) (c_is : rows_with wide columns_name (column_values name t column) start ≡ Ok c) where
      c_took : Took wide columns_name (column_values name t column) start c
      c_took = took wide columns_name (column_values name t column) start c c_is

      abbrev first_now : Change
      first_now = with_stored columns_name c_took.t.columns c.0 c.1 (no_change wide)

      first_now_is : rows_inserted columns_name (column_values name t column) (no_change wide) ≡ Ok first_now
      first_now_is = inserted_by_cells (no_change wide) columns_name c_took.t (column_values name t column) c.0 c.1 c_took.at c_took.passed
          (narrowed wide columns_name (column_values name t column) start c c_took (within_long wide columns_name (column_values name t column) start c c_took fit_wide refl start_few))

      in_validation : rows_with wide validation_name (validation_values name column) c.1 ≡ Err kind → IsRefusal (add_column_at_width wide name column) kind
      in_validation e = column_second_refused wide name column t passed at kind first_now first_now_is
          (stream_refused wide validation_name (validation_values name column) c.1 first_now (stays_at columns_name validation_name c_took.t.columns c.0 c.1 (no_change wide) refl) refl refl kind
          (one_err k kept sound name [] kind validation_name (validation_values name column) c.1 e))

    pub lengthened_refused : IsRefusal (rows_for_column wide name column start t) kind → IsRefusal (add_column_at_width wide name column) kind
    lengthened_refused (inl memory) = inl memory
    lengthened_refused (inr e) =
        bind_err (rows_with wide columns_name (column_values name t column) start) (second_rows wide name t column) kind e in_columns (λ c c_is e.
        bind_err (rows_with wide validation_name (validation_values name column) c.1) (last_rows t c.0) kind e (in_validation c c_is) (λ v v_is e. absurd cc))
