-- A recount keeps a database: what the system tables' cells name keeps its text, so that they describe the same tables.
use Rattle.std.proofs.Common.{◌≡◌, ℕ, ◌<◌, ◌≤◌, Bool, true, false, not, ◌==◌, List, [], ◌∷◌, Option, Some, None, Result, Ok, Err, is_some, unwrap_or, refl, sym, ap, subst, ◌∙◌, arith}
use Rattle.std.specs.Prelude.{if◌then◌else◌, MatchBool}
use Rattle.std.specs.Option.{option_map_or}
use Rattle.std.proofs.lemmas.Bool.{eq-eqb, not-false}
use Rattle.std.proofs.lemmas.Option.{option_and_then_some}
use Rattle.msi_base.specs.Lists.{list_cmp}
use Rattle.msi_pool.specs.Pool.{Place, PlacesWritten, Pool}
use Rattle.msi_base.specs.declared.errors.ErrorKind.{ErrorKind}
use Rattle.msi_base.specs.declared.errors.ErrorKind.TheVariants.{InvalidData}
use Rattle.msi_pool.specs.Recounting.{with_counts}
use Rattle.msi_pool.proofs.RecountingLemmas.{CountsFit-with_counts}
use Rattle.msi_table_cells.specs.declared.cell.ValueRef.{ValueRef}
use Rattle.msi_table_values.specs.Columns.{ColumnDef}
use Rattle.msi_table.specs.Tables.{TableDef}
use Rattle.msi_base.specs.Refusals.{first_refusal, Refusals, unless_refused}
use Rattle.msi_table_cells.specs.TableCells.{TableCells}
use Rattle.msi_database_schema.specs.Keys.{table_key}
use Rattle.msi_database_schema.specs.Schema.{schema_of}
use Rattle.msi_database_schema.specs.System.{columns_columns, columns_name, tables_columns, tables_name, validation_columns, validation_name}
use Rattle.msi_database_changes.specs.Database.{are_alike, cells_naming, columns_by_name, Database, is_sound, is_well_formed, names_stay_in_pool, table_at, validation_is_standard}
use Rattle.msi_database_changes.specs.Recounting.{cell_counts, counting_refusals, counts_changed, counts_fit, early_recount_refusals, IsRecounted, recount, recount_refusals, recounted}
use Rattle.msi_database_changes.proofs.describing.AlikeColumnLemmas.{rows_alike}
use Rattle.msi_database_changes.proofs.text_counts.RecountingLemmas.{counts_fit_are, many_places, recounts_make_exact, texts_stay, unchanged_same, unchanged_sound}
use Rattle.msi_database_changes.proofs.steps.RefusedLemmas.{behind_passed, first_refused, front_holds, none_holds, refused_first}
use Rattle.msi_database_changes.proofs.text_counts.RowsLemmas.{rows_uses}
use Rattle.msi_database_changes.proofs.describing.SchemaKeptLemmas.{shown_table}
use Rattle.msi_database_changes.proofs.text_counts.TablesLemmas.{naming_is, table_uses, total-found}
use Rattle.msi_database_changes.proofs.steps.ValuesLemmas.{held_stay}
use Rattle.msi_database_storage.specs.Kept.{AreAsLong, Kept, kept_of, table_kept_at}
use Rattle.msi_database_storage.specs.Streams.{stored_rows, stream_at, Streams}
use Rattle.msi_database_storage.specs.Agreement.{described_by, schema_in, schema_rows}
use Rattle.msi_database_storage.proofs.SoundnessLemmas.{standard_kept}
use Rattle.msi_database.specs.Keeping.{AreKept, IsKeptDatabase}
use Rattle.msi_database.specs.Recounting.{after_recount, RecountsAreKept}
use Rattle.msi_database.proofs.soundness.DescribedLemmas.{table_rows}
use Rattle.msi_database.proofs.keeping.KeptLawLemmas.{kept_is_well_formed}
use Rattle.msi_database_storage.proofs.ReadingLemmas.{schema_same}

-- a place without cells has no text
free_text : (n : ℕ) (p : Place) → n ≡ 0 → (if n == 0 then [] else p.text) ≡ []
free_text n p zeroed = ap (λ b. if b then [] else p.text) (eq-eqb n 0 zeroed)

counts_freed : (counts : List ℕ) (places : List Place) → PlacesWritten (with_counts counts places)
counts_freed [] places = tt
counts_freed (c ∷ cs) [] = tt
counts_freed (c ∷ cs) (p ∷ ps) = (free_text c p, counts_freed cs ps)

module _ (k : Kept) (h : IsKeptDatabase k) (passes : first_refusal (recount_refusals k.database) ≡ None) where
  abbrev d : Database
  d = k.database

  formed : is_well_formed d ≡ true
  formed = kept_is_well_formed k h

  standard : validation_is_standard d ≡ true
  standard = not-false (validation_is_standard d) (none_holds (recount_refusals d) passes).1.1.0

  -- what a table's stream names, the database names
  table_named : (name : List ℕ) (columns : List ColumnDef) (t : TableCells) → table_at name d ≡ Some t → stored_rows k.streams d.pool.long columns name ≡ stored_rows k.streams d.pool.long t.columns name
      → (n : ℕ) → 0 < rows_uses (unwrap_or (stored_rows k.streams d.pool.long columns name) []) n → 0 < cells_naming d n
  table_named name columns t found same n some =
      let rows : t.rows ≡ stored_rows k.streams d.pool.long columns name = table_rows k.streams d.pool.long d.tables h.spelled.tables name t found ∙ sym same in
      omega (arith, some, ap (λ (o : Option (List (List ValueRef))). rows_uses (unwrap_or o []) n) rows, naming_is d n, total-found list_cmp table_uses name t d.tables n found)

  same_values : (name : List ℕ) (columns : List ColumnDef) → ((n : ℕ) → 0 < rows_uses (unwrap_or (stored_rows k.streams d.pool.long columns name) []) n → 0 < cells_naming d n)
      → described_by k.streams (recounted d).pool columns name ≡ described_by k.streams d.pool columns name
  same_values name columns named = held_stay (stored_rows k.streams d.pool.long columns name) d.pool.places (recounted d).pool.places (λ n some. texts_stay d formed n (named n some))

  with_columns : (name : List ℕ) (columns : List ColumnDef) → (t : TableCells) × (table_at name d ≡ Some t) × (t.columns ≡ columns)
      → described_by k.streams (recounted d).pool columns name ≡ described_by k.streams d.pool columns name
  with_columns name columns t = same_values name columns (table_named name columns t.0 t.1 (ap (λ (columns : List ColumnDef). stored_rows k.streams d.pool.long columns name) (sym t.2)))

  validation_by : (o : Option TableCells) → table_at validation_name d ≡ o → option_map_or (λ t. are_alike t.columns validation_columns) o true ≡ true
      → (n : ℕ) → 0 < rows_uses (unwrap_or (stored_rows k.streams d.pool.long validation_columns validation_name) []) n → 0 < cells_naming d n
  validation_by (Some t) found alike n some = table_named validation_name validation_columns t found
      (sym (rows_alike d.pool.long t.columns validation_columns (unwrap_or (stream_at (table_key validation_name) k.streams) []) alike)) n some
  validation_by None none alike n some =
      let rows : stored_rows k.streams d.pool.long validation_columns validation_name ≡ Some d.unlisted_validation =
      subst (λ b. MatchBool b (d.unlisted_validation ≡ []) (stored_rows k.streams d.pool.long validation_columns validation_name ≡ Some d.unlisted_validation)) (ap is_some none) h.spelled.unlisted in
      omega (arith, some, ap (λ (o : Option (List (List ValueRef))). rows_uses (unwrap_or o []) n) rows, naming_is d n)

  schema_stays : schema_in k.streams (recounted d).pool ≡ Some (columns_by_name d)
  schema_stays = option_and_then_some schema_of (schema_rows k.streams d.pool) (columns_by_name d) h.spelled.schema
      (λ s s_is e. schema_same k.streams (recounted d).pool d.pool
      (with_columns tables_name tables_columns (shown_table d s e tables_name tables_columns refl))
      (with_columns columns_name columns_columns (shown_table d s e columns_name columns_columns refl))
      (same_values validation_name validation_columns (validation_by (table_at validation_name d) refl standard))
      ∙ h.spelled.schema)

  pub recount_kept : IsKeptDatabase (after_recount k)
  recount_kept = record {
    in_order = h.in_order;
    names = h.names;
    spelled = record { tables = h.spelled.tables; unlisted = h.spelled.unlisted; schema = schema_stays };
    rows = h.rows;
    unlisted = h.unlisted;
    few = subst (λ many. many ≤ 16777215) (sym (many_places d)) h.few;
    counts = CountsFit-with_counts (cell_counts d) d.pool.places (counts_fit_are d (not-false (counts_fit d) (none_holds (recount_refusals d) passes).1.1.1.1.0));
    freed = λ sound. counts_freed (cell_counts d) d.pool.places;
  }

  -- where no count changes, nothing does
  pub recount_unchanged : counts_changed d ≡ 0 → after_recount k ≡ k
  recount_unchanged same = ap (λ (e : Database). record k { database = e }) (unchanged_same d same (h.freed (unchanged_sound d formed passes same)))

  pub recount_exact : IsRecounted d (recounted d)
  recount_exact = recounts_make_exact d formed passes

pub recounts_are_kept : RecountsAreKept
recounts_are_kept k h passes = recount_kept k h passes

-- THE CALL, over the parts of a database

module _ (pool : Pool) (tables listed : List TableDef) (streams : Streams) (same : listed ≡ tables) (k : Kept) (is : kept_of pool tables streams ≡ k) where
  pub standard_here : (b : Bool) (standard : List ColumnDef) → standard ≡ validation_columns → b ≡ option_map_or (λ (t : TableDef). are_alike t.columns standard) (table_kept_at validation_name listed) true
      → b ≡ validation_is_standard k.database
  standard_here b standard std e = e ∙ ap (λ (ts : List TableDef). option_map_or (λ (t : TableDef). are_alike t.columns standard) (table_kept_at validation_name ts) true) same
      ∙ standard_kept pool tables streams standard std ∙ ap (λ (k : Kept). validation_is_standard k.database) is

-- refusals one after the other
refused_now : (kind : ErrorKind) (a : Bool) (rest : Refusals) → kind ≡ InvalidData → a ≡ false → ◌≡◌ {A = Result (Unit {0}) ErrorKind} (Err kind) (unless_refused ((not a, InvalidData) ∷ rest) tt)
refused_now kind a rest is fails = rw (is, fails) refl

refused_later : (answer : Result (Unit {0}) ErrorKind) (a : Bool) (rest : Refusals) → a ≡ true → answer ≡ unless_refused rest tt → answer ≡ unless_refused ((not a, InvalidData) ∷ rest) tt
refused_later answer a rest passes e = rw passes e

module _ (d : Database) where
  abbrev for_counts : Refusals
  for_counts = (not (counts_fit d), InvalidData) ∷ []

  abbrev for_names : Refusals
  for_names = (not (names_stay_in_pool d), InvalidData) ∷ for_counts

  pub refused_for_columns : (kind : ErrorKind) → kind ≡ InvalidData → validation_is_standard d ≡ false → ◌≡◌ {A = Result (Unit {0}) ErrorKind} (Err kind) (unless_refused (counting_refusals d) tt)
  refused_for_columns kind is fails = refused_now kind (validation_is_standard d) for_names is fails

  module _ (standard : validation_is_standard d ≡ true) (within : names_stay_in_pool d ≡ true) where
    pub refused_for_counts : (kind : ErrorKind) → kind ≡ InvalidData → counts_fit d ≡ false → ◌≡◌ {A = Result (Unit {0}) ErrorKind} (Err kind) (unless_refused (counting_refusals d) tt)
    refused_for_counts kind is fails = refused_later (Err kind) (validation_is_standard d) for_names standard
        (refused_later (Err kind) (names_stay_in_pool d) for_counts within (refused_now kind (counts_fit d) [] is fails))

    pub none_refused : counts_fit d ≡ true → ◌≡◌ {A = Result (Unit {0}) ErrorKind} (Ok tt) (unless_refused (counting_refusals d) tt)
    none_refused fit = refused_later (Ok tt) (validation_is_standard d) for_names standard
        (refused_later (Ok tt) (names_stay_in_pool d) for_counts within (refused_later (Ok tt) (counts_fit d) [] fit refl))

-- what is refused early is refused, and then what the cells say
module _ (d : Database) (kind : ErrorKind) where
  pub refused_early : ◌≡◌ {A = Result (Unit {0}) ErrorKind} (Err kind) (unless_refused (early_recount_refusals d) tt) → recount d ≡ Err kind
  refused_early e = first_refused (recount_refusals d) (counts_changed d) kind
      (front_holds (early_recount_refusals d) (counting_refusals d) kind (refused_first (early_recount_refusals d) tt kind (sym e)))

  pub refused_late : first_refusal (early_recount_refusals d) ≡ None → ◌≡◌ {A = Result (Unit {0}) ErrorKind} (Err kind) (unless_refused (counting_refusals d) tt) → recount d ≡ Err kind
  refused_late passed e = first_refused (recount_refusals d) (counts_changed d) kind
      (behind_passed (early_recount_refusals d) (counting_refusals d) passed ∙ refused_first (counting_refusals d) tt kind (sym e))

-- the parts that are left
module _ (pool new : Pool) (tables : List TableDef) (streams : Streams) (k : Kept) (is : kept_of pool tables streams ≡ k) (counts : List ℕ) (are : counts ≡ cell_counts k.database)
    (new_is : new ≡ record pool { places = with_counts counts pool.places }) where
  pub left_is : kept_of new tables streams ≡ after_recount k
  left_is =
      let here : counts ≡ cell_counts (kept_of pool tables streams).database = are ∙ ap (λ (k : Kept). cell_counts k.database) (sym is) in
      ap (λ (p : Pool). kept_of p tables streams) (new_is ∙ ap (λ (counts : List ℕ). record pool { places = with_counts counts pool.places }) here)
      ∙ ap after_recount is

  pub left_kept : IsKeptDatabase k → AreAsLong pool.long tables → first_refusal (recount_refusals k.database) ≡ None → AreKept new tables streams true
  left_kept h long passes = record {
    kept = subst IsKeptDatabase (sym left_is) (recount_kept k h passes);
    as_long = subst (λ (p : Pool). AreAsLong p.long tables) (sym new_is) long;
    known = sym (ap (λ (k : Kept). is_sound k.database) left_is ∙ (recount_exact k h passes).sound);
  }
