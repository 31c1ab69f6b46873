-- Tables that are stored anew: what their streams spell then, and what the others do.
use Rattle.std.proofs.Common.{◌≡◌, ◌≢◌, ℕ, suc, ◌/◌, Bool, true, false, cond, ◌||◌, ◌==◌, List, [], ◌∷◌, length, bytes_eq, Option, Some, None, unwrap_or, sum, refl, sym, ap, subst, ◌∙◌, arith, ◌⊎◌, inl, inr}
use Rattle.std.specs.Prelude.{MatchBool, IsSomeAnd}
use Rattle.std.specs.List.{list_any, AllByRecursion}
use Rattle.std.specs.FinMap.{find}
use Rattle.std.proofs.lemmas.Bool.{or_parts, true≢false, ne_eqb, cases_Bool}
use Rattle.std.proofs.lemmas.Slice.Eq.{bytes_eq-Decides}
use Rattle.msi_base.specs.Lists.{list_cmp}
use Rattle.msi_table_cells.specs.declared.cell.ValueRef.{ValueRef}
use Rattle.msi_table_values.specs.declared.column.ColumnType.{ColumnType}
use Rattle.msi_table_values.specs.Columns.{ColumnDef, types_of}
use Rattle.msi_table.specs.Cells.{rows_in, table_bytes, widths}
use Rattle.msi_table_cells.specs.Fitting.{FitsTable}
use Rattle.msi_table.proofs.ReadBackLemmas.{rows_in-table_bytes}
use Rattle.msi_table_cells.specs.TableCells.{TableCells}
use Rattle.msi_database_schema.specs.Keys.{is_table_name, table_key, summary_key, string_pool_name, string_data_name}
use Rattle.msi_database_changes.specs.Database.{Database, Tables, table_at}
use Rattle.msi_database_changes.proofs.steps.TracksLemmas.{TableFits}
use Rattle.msi_database_storage.specs.Streams.{Streams, stream_at, with_stream_or_none, stored_rows, stored_stream, stored_streams}
use Rattle.msi_database_storage.specs.Agreement.{TablesAre}
use Rattle.msi_database_schema.proofs.KeyLemmas.{table_keys_tell_names, table_key≢summary_key, table_key≢pool}
use Rattle.msi_database_storage.proofs.StreamLemmas.{stream_at_put, stream_at_other_put, stream_at_removed, stream_at_other_removed, AreSorted, sorted_put, sorted_removed, with_or_none_either, names_put, TablesSorted, tables_found}

-- each other stream stays
pub stored_other : (key : List ℕ) (long : Bool) (name : List ℕ) (t : Option TableCells) (streams : Streams) → key ≢ table_key name → stream_at key (stored_stream long name t streams) ≡ stream_at key streams
stored_other key long name t streams apart = with_or_none_either (λ after. stream_at key after ≡ stream_at key streams) (table_key name) _ streams
    (λ bytes. stream_at_other_put key (table_key name) bytes streams apart) (stream_at_other_removed key (table_key name) streams apart)

pub stored_sorted : (long : Bool) (name : List ℕ) (t : Option TableCells) (streams : Streams) → AreSorted streams → AreSorted (stored_stream long name t streams)
stored_sorted long name t streams h = with_or_none_either AreSorted (table_key name) _ streams (λ bytes. sorted_put (table_key name) bytes streams h) (sorted_removed (table_key name) streams h)

-- no bytes spell no row
no_rows : (long : Bool) (types : List ColumnType) → rows_in long types [] ≡ Some []
no_rows long types =
    let none : 0 / sum (widths long types) ≡ 0 = omega arith in
    rw none

-- a table's stream spells its rows
stored_at : (long : Bool) (columns : List ColumnDef) (rows : List (List ValueRef)) (name : List ℕ) (streams : Streams) → FitsTable long (types_of columns) rows
    → stored_rows (stored_stream long name (Some (record { columns = columns; rows = Some rows })) streams) long columns name ≡ Some rows
stored_at long columns [] name streams fits = ap (λ (o : Option (List ℕ)). rows_in long (types_of columns) (unwrap_or o [])) (stream_at_removed (table_key name) streams) ∙ no_rows long (types_of columns)
stored_at long columns (row ∷ rows) name streams fits =
    let bytes : List ℕ = table_bytes long (types_of columns) (row ∷ rows) in
    let some : (length (row ∷ rows) == 0) ≡ false = ne_eqb (suc (length rows)) 0 (λ e. omega arith) in
    ap (λ b. stored_rows (with_stream_or_none (table_key name) (cond b None (Some bytes)) streams) long columns name) some
    ∙ ap (λ (o : Option (List ℕ)). rows_in long (types_of columns) (unwrap_or o [])) (stream_at_put (table_key name) bytes streams)
    ∙ rows_in-table_bytes long (types_of columns) (row ∷ rows) fits

with_rows : (long : Bool) (t : TableCells) (o : Option (List (List ValueRef))) → t.rows ≡ o → IsSomeAnd o (FitsTable long (types_of t.columns)) → (name : List ℕ) (streams : Streams)
    → stored_rows (stored_stream long name (Some t) streams) long t.columns name ≡ t.rows
with_rows long t None e fits name streams = absurd fits
with_rows long t (Some rows) e fits name streams = subst
    (λ (o : Option (List (List ValueRef))). stored_rows (stored_stream long name (Some (record { columns = t.columns; rows = o })) streams) long t.columns name ≡ o) (sym e)
    (stored_at long t.columns rows name streams fits)

pub stored_here : (long : Bool) (t : TableCells) (name : List ℕ) (streams : Streams) → TableFits long t → stored_rows (stored_stream long name (Some t) streams) long t.columns name ≡ t.rows
stored_here long t name streams fits = with_rows long t t.rows refl fits name streams

abbrev pub AreNames : List (List ℕ) → Type 0
AreNames names = AllByRecursion (λ name. is_table_name name ≡ true) names

-- SEVERAL TABLES

module _ (d : Database) where
  pub all_sorted : (names : List (List ℕ)) (streams : Streams) → AreSorted streams → AreSorted (stored_streams d names streams)
  all_sorted [] streams h = h
  all_sorted (n ∷ ns) streams h = all_sorted ns (stored_stream d.pool.long n (table_at n d) streams) (stored_sorted d.pool.long n (table_at n d) streams h)

  -- what holds of the names of streams, and of those of tables' streams, goes on to hold
  pub all_names : (P : List ℕ → Type 0) → ((name : List ℕ) → is_table_name name ≡ true → P (table_key name)) → (names : List (List ℕ)) (streams : Streams) → AreNames names
      → AllByRecursion (λ s. P s.0) streams → AllByRecursion (λ s. P s.0) (stored_streams d names streams)
  all_names P own [] streams are h = h
  all_names P own (n ∷ ns) streams are h = all_names P own ns (stored_stream d.pool.long n (table_at n d) streams) are.1 (names_put P (table_key n) _ streams (own n are.0) h)

  -- a key that is no stored table's
  pub all_other : (key : List ℕ) (names : List (List ℕ)) (streams : Streams) → AllByRecursion (λ n. key ≢ table_key n) names → stream_at key (stored_streams d names streams) ≡ stream_at key streams
  all_other key [] streams apart = refl
  all_other key (n ∷ ns) streams apart = all_other key ns (stored_stream d.pool.long n (table_at n d) streams) apart.1 ∙ stored_other key d.pool.long n (table_at n d) streams apart.0

  -- the streams of the summary and of the pool stay
  summary_apart : (names : List (List ℕ)) → AllByRecursion (λ n. summary_key ≢ table_key n) names
  summary_apart [] = tt
  summary_apart (n ∷ ns) = (λ e. table_key≢summary_key n (sym e), summary_apart ns)

  pub summary_stays : (names : List (List ℕ)) (streams : Streams) → stream_at summary_key (stored_streams d names streams) ≡ stream_at summary_key streams
  summary_stays names streams = all_other summary_key names streams (summary_apart names)

  pool_apart : (names : List (List ℕ)) → AreNames names → AllByRecursion (λ n. table_key string_pool_name ≢ table_key n) names × AllByRecursion (λ n. table_key string_data_name ≢ table_key n) names
  pool_apart [] are = (tt, tt)
  pool_apart (n ∷ ns) are =
      let here = table_key≢pool n are.0 in
      let rest = pool_apart ns are.1 in
      ((λ e. here.0 (sym e), rest.0), (λ e. here.1 (sym e), rest.1))

  pub pool_stays : (names : List (List ℕ)) (streams : Streams) → AreNames names
      → (stream_at (table_key string_pool_name) (stored_streams d names streams) ≡ stream_at (table_key string_pool_name) streams)
      × (stream_at (table_key string_data_name) (stored_streams d names streams) ≡ stream_at (table_key string_data_name) streams)
  pool_stays names streams are = (all_other (table_key string_pool_name) names streams (pool_apart names are).0, all_other (table_key string_data_name) names streams (pool_apart names are).1)

  pub table_apart : (name : List ℕ) → is_table_name name ≡ true → (names : List (List ℕ)) → AreNames names → list_any (bytes_eq name) names ≡ false → AllByRecursion (λ n. table_key name ≢ table_key n) names
  table_apart name is [] are h = tt
  table_apart name is (n ∷ ns) are h =
      let parts = or_parts (bytes_eq name n) (list_any (bytes_eq name) ns) h in
      (λ e. true≢false (sym ((bytes_eq-Decides name n).1 (table_keys_tell_names name n is are.0 e)) ∙ parts.0), table_apart name is ns are.1 parts.1)

  -- a table that isn't stored has its rows as before
  pub rows_stay : (name : List ℕ) (columns : List ColumnDef) (names : List (List ℕ)) (streams : Streams) → is_table_name name ≡ true → AreNames names → list_any (bytes_eq name) names ≡ false
      → stored_rows (stored_streams d names streams) d.pool.long columns name ≡ stored_rows streams d.pool.long columns name
  rows_stay name columns names streams is are h = ap (λ (o : Option (List ℕ)). rows_in d.pool.long (types_of columns) (unwrap_or o [])) (all_other (table_key name) names streams (table_apart name is names are h))

  module _ (name : List ℕ) (t : TableCells) (found : table_at name d ≡ Some t) (is : is_table_name name ≡ true) (fits : TableFits d.pool.long t) where
    abbrev Spelled : Streams → Type 0
    Spelled streams = stored_rows streams d.pool.long t.columns name ≡ t.rows

    spelled_here : (streams : Streams) → Spelled (stored_stream d.pool.long name (table_at name d) streams)
    spelled_here streams = rw found (stored_here d.pool.long t name streams fits)

    spelled_still : (n : List ℕ) (streams : Streams) → table_key name ≢ table_key n → Spelled streams → Spelled (stored_stream d.pool.long n (table_at n d) streams)
    spelled_still n streams apart h = ap (λ (o : Option (List ℕ)). rows_in d.pool.long (types_of t.columns) (unwrap_or o [])) (stored_other (table_key name) d.pool.long n (table_at n d) streams apart) ∙ h

    later : (n : List ℕ) (ns : List (List ℕ)) (streams : Streams) → is_table_name n ≡ true → bytes_eq name n ≡ false → (list_any (bytes_eq name) (n ∷ ns) ≡ true) ⊎ Spelled streams
        → (list_any (bytes_eq name) ns ≡ true) ⊎ Spelled (stored_stream d.pool.long n (table_at n d) streams)
    later n ns streams named other (inl stored) = inl (ap (λ b. b || list_any (bytes_eq name) ns) (sym other) ∙ stored)
    later n ns streams named other (inr h) = inr (spelled_still n streams (λ e. true≢false (sym ((bytes_eq-Decides name n).1 (table_keys_tell_names name n is named e)) ∙ other)) h)

    -- spelled already, or stored in turn
    pub spelled : (names : List (List ℕ)) (streams : Streams) → AreNames names → (list_any (bytes_eq name) names ≡ true) ⊎ Spelled streams → Spelled (stored_streams d names streams)
    spelled [] streams are (inl stored) = absurd (true≢false (sym stored))
    spelled [] streams are (inr h) = h
    spelled (n ∷ ns) streams are h = elim (cases_Bool (bytes_eq name n)) [
      | inl same ↦ spelled ns (stored_stream d.pool.long n (table_at n d) streams) are.1 (inr (subst (λ (m : List ℕ). Spelled (stored_stream d.pool.long m (table_at m d) streams)) ((bytes_eq-Decides name n).0 same) (spelled_here streams)))
      | inr other ↦ spelled ns (stored_stream d.pool.long n (table_at n d) streams) are.1 (later n ns streams are.0 other h)
    ]

  -- the rows of each table: stored now, or as they were
  abbrev pub IsStoredOrStays : List (List ℕ) → Streams → List ℕ × TableCells → Type 0
  IsStoredOrStays names streams t = MatchBool (list_any (bytes_eq t.0) names) (TableFits d.pool.long t.1) (t.1.rows ≡ stored_rows streams d.pool.long t.1.columns t.0)

  kept_at : (names : List (List ℕ)) (streams : Streams) (name : List ℕ) (t : TableCells) (b : Bool) → list_any (bytes_eq name) names ≡ b → table_at name d ≡ Some t → is_table_name name ≡ true → AreNames names
      → MatchBool b (TableFits d.pool.long t) (t.rows ≡ stored_rows streams d.pool.long t.columns name) → t.rows ≡ stored_rows (stored_streams d names streams) d.pool.long t.columns name
  kept_at names streams name t true e found is are fits = sym (spelled name t found is fits names streams are (inl e))
  kept_at names streams name t false e found is are same = same ∙ sym (rows_stay name t.columns names streams is are e)

  each_kept : (names : List (List ℕ)) (streams : Streams) (tables : Tables) → AreNames names
      → AllByRecursion (λ t. find list_cmp t.0 d.tables ≡ Some t.1) tables → AllByRecursion (λ t. is_table_name t.0 ≡ true) tables → AllByRecursion (IsStoredOrStays names streams) tables
      → AllByRecursion (λ t. t.1.rows ≡ stored_rows (stored_streams d names streams) d.pool.long t.1.columns t.0) tables
  each_kept names streams [] are found named kept = tt
  each_kept names streams (t ∷ ts) are found named kept =
      (kept_at names streams t.0 t.1 (list_any (bytes_eq t.0) names) refl found.0 named.0 are kept.0, each_kept names streams ts are found.1 named.1 kept.1)

  -- after tables were stored, each table has the rows of its stream
  pub tables_are : (names : List (List ℕ)) (streams : Streams) → TablesSorted d.tables → AllByRecursion (λ t. is_table_name t.0 ≡ true) d.tables → AreNames names
      → AllByRecursion (IsStoredOrStays names streams) d.tables → TablesAre (stored_streams d names streams) d
  tables_are names streams sorted named are kept = each_kept names streams d.tables are (tables_found d.tables sorted) named kept
