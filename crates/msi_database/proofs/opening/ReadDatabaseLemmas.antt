-- A database that is read: its pool's places, what it keeps to, and what it is.
use Rattle.std.proofs.Common.{◌≡◌, ℕ, ◌≤◌, Bool, true, false, ◌||◌, ◌==◌, List, [], ◌∷◌, ◌++◌, map, length, Option, Some, is_some, unwrap_or, refl, sym, ap, ap₂, subst, ◌∙◌}
use Rattle.std.specs.Prelude.{T, if◌then◌else◌, option_map}
use Rattle.std.specs.List.{enumerate_from, list_any}
use Rattle.std.proofs.lemmas.List.{length-map}
use Rattle.std.proofs.lemmas.List.FromFn.{length-enumerate_from}
use Rattle.std.specs.FinMap.{entries, entries_sorted, is_sorted}
use Rattle.std.proofs.lemmas.List.Folds.{list_any-append}
use Rattle.std.proofs.lemmas.Option.{same_Some}
use Rattle.msi_container_format.specs.Names.{name_cmp}
use Rattle.msi_container_format.specs.Streams as maps
use Rattle.msi_pool.specs.Pool.{CountsFit, Place, Pool, forgotten, with_named_texts}
use Rattle.msi_table_cells.specs.declared.cell.ValueRef.{ValueRef}
use Rattle.msi_table_values.specs.Columns.{ColumnDef}
use Rattle.msi_table.specs.Tables.{TableDef}
use Rattle.msi_database_schema.specs.System.{validation_columns, validation_name}
use Rattle.msi_database_schema.specs.Schema.{table_with}
use Rattle.msi_table.specs.Census.{CensusDef, IsCensus, numbers_of_rows}
use Rattle.msi_database_changes.specs.Database.{Database, Tables, is_sound, named_numbers}
use Rattle.msi_database_storage.specs.Streams.{Streams, stored_rows}
use Rattle.msi_database_storage.specs.StreamNames.{HaveShortNames, HoldBytes}
use Rattle.msi_database_storage.specs.Kept.{AreAsLong, Kept, database_kept, kept_of, schema_listed, table_kept, table_kept_at, unlisted_kept}
use Rattle.msi_database_storage.specs.Naming.{numbers_named, numbers_of_tables, pool_shown}
use Rattle.msi_database_storage.specs.Agreement.{is_shown, schema_in}
use Rattle.msi_database.specs.Keeping.{AreKept, IsRead}
use Rattle.msi_database.specs.Listed.{tables_listed}
use Rattle.msi_database.specs.Transforming.{database_read, read_with, shown_with}
use Rattle.msi_database_storage.specs.Reading.{IsDatabaseOf}
use Rattle.msi_database.proofs.soundness.FitLemmas.{well_formed}
use Rattle.msi_database.proofs.keeping.KeptLawLemmas.{read_is_kept}
use Rattle.msi_database.proofs.keeping.KeptPartsLemmas.{parts_make, parts_spelled}
use Rattle.msi_database.proofs.soundness.SchemaLemmas.{tables_sorted}
use Rattle.msi_database.proofs.opening.ShownTextLemmas.{schema_by_raw}

-- rows that are kept beside the tables name no more than those of their stream
once_more : (p : ℕ → Bool) (a b : Bool) (rows : List (List ValueRef))
    → ((a || list_any p (numbers_of_rows (if b then [] else rows))) || list_any p (numbers_of_rows rows)) ≡ (a || list_any p (numbers_of_rows rows))
once_more p true b rows = refl
once_more p false true rows = refl
once_more p false false rows = twice (list_any p (numbers_of_rows rows)) where
  twice : (x : Bool) → (x || x) ≡ x
  twice true = refl
  twice false = refl

shown_here : (p : ℕ → Bool) (ts : List ℕ) (b : Bool) (rows : List (List ValueRef)) (o : Option (List (List ValueRef))) → o ≡ Some rows
    → list_any p (ts ++ numbers_of_rows rows) ≡ list_any p ((ts ++ numbers_of_rows (if b then [] else unwrap_or o [])) ++ numbers_of_rows (unwrap_or o []))
shown_here p ts b rows o e =
    list_any-append p ts (numbers_of_rows rows) ∙ sym (once_more p (list_any p ts) b rows)
    ∙ ap (λ x. x || list_any p (numbers_of_rows rows)) (sym (list_any-append p ts (numbers_of_rows (if b then [] else rows))))
    ∙ sym (list_any-append p (ts ++ numbers_of_rows (if b then [] else rows)) (numbers_of_rows rows))
    ∙ ap (λ (o : Option (List (List ValueRef))). list_any p ((ts ++ numbers_of_rows (if b then [] else unwrap_or o [])) ++ numbers_of_rows (unwrap_or o []))) (sym e)

length-with_named_texts : (is_named : ℕ → Bool) (places : List Place) → length (with_named_texts is_named places) ≡ length places
length-with_named_texts is_named places = length-map (enumerate_from 1 places) (λ e. forgotten (is_named e.0) e.1) ∙ length-enumerate_from 1 places

listed_again : (long : Bool) (ts : List TableDef) → AreAsLong long ts → map (table_with long) (schema_listed ts) ≡ ts
listed_again long [] all = refl
listed_again long (t ∷ ts) all =
    let wide : long ≡ t.long = sym all.0 in
    let here : table_with long (t.name, t.columns) ≡ t = λ i. record { name = t.name; columns = t.columns; long = wide i } in
    ap₂ (λ (v : TableDef) vs. v ∷ vs) here (listed_again long ts all.1)

-- what is read of a pool, of streams, and of the tables that they describe
pub record Reads (raw : Pool) (tables : List TableDef) (streams : Streams) (rows : List (List ValueRef)) : Type 0 where
  pub in_order : T (is_sorted name_cmp streams)
  pub names : HaveShortNames streams
  pub held : HoldBytes streams
  pub few : length raw.places ≤ 16777215
  pub counts : CountsFit raw.places
  pub as_long : AreAsLong raw.long tables
  pub stored : stored_rows streams raw.long validation_columns validation_name ≡ Some rows
  pub schema : schema_in streams raw ≡ Some (schema_listed tables)

module _ (raw : Pool) (tables : List TableDef) (streams : Streams) (rows : List (List ValueRef)) (h : Reads raw tables streams rows) where
  abbrev shown : Pool
  shown = pool_shown (numbers_named streams raw.long tables rows) raw

  schema_read : schema_in streams shown ≡ Some (schema_listed tables)
  schema_read = schema_by_raw raw tables streams rows h.held h.stored raw h.schema ∙ h.schema

  places_read : shown.places ≡ with_named_texts (is_shown streams (database_kept shown tables streams)) raw.places
  places_read = λ i. with_named_texts (λ number. shown_here (λ n. n == number) (numbers_of_tables (map (table_kept streams raw.long) tables)) (is_some (table_kept_at validation_name tables)) rows
      (stored_rows streams raw.long validation_columns validation_name) h.stored i) raw.places

  is_read : IsRead raw shown tables streams
  is_read = record {
    in_order = h.in_order;
    names = h.names;
    bytes = h.held;
    few = h.few;
    counts = h.counts;
    places = places_read;
    as_long = h.as_long;
    schema = schema_read;
  }

  pub read_unlisted : (new : Pool) → new ≡ shown → (if is_some (table_kept_at validation_name tables) then [] else rows) ≡ unlisted_kept streams new.long tables
  read_unlisted new e = subst (λ (p : Pool). (if is_some (table_kept_at validation_name tables) then [] else rows) ≡ unlisted_kept streams p.long tables) (sym e)
      (ap (λ (o : Option (List (List ValueRef))). if is_some (table_kept_at validation_name tables) then [] else unwrap_or o []) (sym h.stored))

  -- the census of its tables, with the rows beside them, is that of the database
  pub read_census : (new : Pool) → new ≡ shown → (many : ℕ) (beside : List (List ValueRef)) (census : CensusDef) → many ≡ length raw.places → beside ≡ (if is_some (table_kept_at validation_name tables) then [] else rows)
      → IsCensus many (numbers_of_tables (map (table_kept streams raw.long) tables) ++ numbers_of_rows beside) census → IsCensus (length new.places) (named_numbers (database_kept new tables streams)) census
  read_census new e many beside census is_many is_beside counted =
      subst (λ (p : Pool). IsCensus (length p.places) (named_numbers (database_kept p tables streams)) census) (sym e)
      (subst (λ many. IsCensus many (named_numbers (database_kept shown tables streams)) census) (is_many ∙ sym (length-with_named_texts (λ number. list_any (λ n. n == number) (numbers_named streams raw.long tables rows)) raw.places))
      (subst (λ (rows : List (List ValueRef)). IsCensus many (numbers_of_tables (map (table_kept streams raw.long) tables) ++ numbers_of_rows rows) census) (is_beside ∙ read_unlisted shown refl) counted))

  pub read_kept : (new : Pool) → new ≡ shown → (sound : Bool) → sound ≡ is_sound (database_kept new tables streams) → AreKept new tables streams sound
  read_kept new e sound = subst (λ (p : Pool). sound ≡ is_sound (database_kept p tables streams) → AreKept p tables streams sound) (sym e) (read_is_kept raw shown tables streams sound is_read)

  pub read_database : (new : Pool) → new ≡ shown → IsDatabaseOf raw streams (kept_of new tables streams)
  read_database new e = subst (λ (p : Pool). IsDatabaseOf raw streams (kept_of p tables streams)) (sym e) (record {
    streams = refl;
    page = refl;
    long = refl;
    places = places_read;
    spelled = parts_spelled shown tables streams schema_read;
  })

  shown_is : shown_with raw tables streams ≡ shown
  shown_is = ap (λ (ps : List Place). record raw { places = ps }) (sym places_read)

  -- it is the one of the definition
  pub read_is : (new : Pool) → new ≡ shown → database_read raw streams ≡ Some (kept_of new tables streams)
  read_is new e =
      ap (option_map (λ listed. read_with raw streams (map (table_with raw.long) listed))) h.schema
      ∙ ap (λ (ts : List TableDef). Some (read_with raw streams ts)) (listed_again raw.long tables h.as_long)
      ∙ ap (λ (p : Pool). Some (kept_of p tables streams)) (shown_is ∙ sym e)

-- THERE IS NO OTHER

abbrev first_name : List (List ℕ × List ColumnDef) → List ℕ
first_name [] = []
first_name (t ∷ ts) = t.0

abbrev first_columns : List (List ℕ × List ColumnDef) → List ColumnDef
first_columns [] = []
first_columns (t ∷ ts) = t.1

same_tables : (long : Bool) (tables others : List TableDef) → AreAsLong long tables → AreAsLong long others → schema_listed tables ≡ schema_listed others → tables ≡ others
same_tables long [] [] all each e = refl
same_tables long [] (u ∷ us) all each e = absurd cc
same_tables long (t ∷ ts) [] all each e = absurd cc
same_tables long (t ∷ ts) (u ∷ us) all each e =
    let name : t.name ≡ u.name = ap first_name e in
    let columns : t.columns ≡ u.columns = ap first_columns e in
    let rest : schema_listed ts ≡ schema_listed us = cc in
    let wide : t.long ≡ u.long = all.0 ∙ sym each.0 in
    let here : t ≡ u = λ i. record { name = name i; columns = columns i; long = wide i } in
    ap₂ (λ (v : TableDef) vs. v ∷ vs) here (same_tables long ts us all.1 each.1 rest)

listed_shown : (long : Bool) (ts : Tables) → schema_listed (map (λ t. record { name = t.0; columns = t.1.columns; long = long }) ts) ≡ map (λ t. (t.0, t.1.columns)) ts
listed_shown long [] = refl
listed_shown long (t ∷ ts) = ap (λ (l : List (List ℕ × List ColumnDef)). (t.0, t.1.columns) ∷ l) (listed_shown long ts)

listed_long : (long : Bool) (ts : Tables) → AreAsLong long (map (λ t. record { name = t.0; columns = t.1.columns; long = long }) ts)
listed_long long [] = tt
listed_long long (t ∷ ts) = (refl, listed_long long ts)

module _ (raw : Pool) (tables : List TableDef) (streams : Streams) (rows : List (List ValueRef)) (h : Reads raw tables streams rows) (k : Kept) (is : IsDatabaseOf raw streams k) where
  own : database_kept k.database.pool (tables_listed k.database) streams ≡ k.database
  own = parts_make streams k.database (tables_listed k.database) is.spelled (listed_shown k.database.pool.long k.database.tables)

  pool_of : (names : ℕ → Bool) → k.database.pool.places ≡ with_named_texts names raw.places → k.database.pool ≡ record raw { places = with_named_texts names raw.places }
  pool_of names places = λ i. record { page = is.page i; long = is.long i; places = places i }

  -- its pool is shown by its own tables
  pool_is : k.database.pool ≡ pool_shown (numbers_named streams raw.long (tables_listed k.database) rows) raw
  pool_is = pool_of (λ number. list_any (λ n. n == number) (numbers_named streams raw.long (tables_listed k.database) rows))
      (is.places ∙ ap (λ (d : Database). with_named_texts (is_shown streams d) raw.places) (sym own)
      ∙ (λ i. with_named_texts (is_shown streams (database_kept (record { page = is.page i; long = is.long i; places = k.database.pool.places }) (tables_listed k.database) streams)) raw.places)
      ∙ sym (λ i. with_named_texts (λ number. shown_here (λ n. n == number) (numbers_of_tables (map (table_kept streams raw.long) (tables_listed k.database))) (is_some (table_kept_at validation_name (tables_listed k.database))) rows
      (stored_rows streams raw.long validation_columns validation_name) h.stored i) raw.places))

  own_schema : schema_in streams k.database.pool ≡ Some (schema_listed (tables_listed k.database))
  own_schema = is.spelled.schema ∙ ap Some (sym (listed_shown k.database.pool.long k.database.tables))

  tables_are : tables_listed k.database ≡ tables
  tables_are = same_tables raw.long (tables_listed k.database) tables (subst (λ long. AreAsLong long (tables_listed k.database)) is.long (listed_long k.database.pool.long k.database.tables)) h.as_long
      (same_Some _ _ (sym own_schema ∙ ap (schema_in streams) pool_is ∙ schema_by_raw raw (tables_listed k.database) streams rows h.held h.stored k.database.pool own_schema ∙ h.schema))

  pub read_once : (new : Pool) → new ≡ pool_shown (numbers_named streams raw.long tables rows) raw → k ≡ kept_of new tables streams
  read_once new e =
      let pool : k.database.pool ≡ new = pool_is ∙ ap (λ (ts : List TableDef). pool_shown (numbers_named streams raw.long ts rows) raw) tables_are ∙ sym e in
      let database : k.database ≡ database_kept new tables streams = sym own ∙ (λ i. database_kept (pool i) (tables_are i) streams) in
      λ i. record { database = database i; streams = is.streams i }

-- AS THE CALL HAS THEM

pub reads_by : (raw : Pool) (m : maps.Streams) (tables listed : List TableDef) (rows : List (List ValueRef)) → HaveShortNames (entries m) → HoldBytes (entries m)
    → length raw.places ≤ 16777215 → CountsFit raw.places
    → stored_rows (entries m) raw.long validation_columns validation_name ≡ Some rows → listed ≡ tables → AreAsLong raw.long tables → schema_in (entries m) raw ≡ Some (schema_listed tables)
    → Reads raw listed (entries m) rows
reads_by raw m tables listed rows names held few counts stored same as_long schema = record {
  in_order = entries_sorted m;
  names = names;
  held = held;
  few = few;
  counts = counts;
  as_long = subst (AreAsLong raw.long) (sym same) as_long;
  stored = stored;
  schema = schema ∙ ap (λ (ts : List TableDef). Some (schema_listed ts)) (sym same);
}
