-- Which streams a change stores, step by step.
use Rattle.std.proofs.Common.{◌≡◌, ◌≢◌, ℕ, Bool, true, false, List, [], ◌∷◌, ◌++◌, map, ◌==◌, Option, Some, None, refl, sym, ap, ◌∙◌, bytes_eq}
use Rattle.std.specs.Prelude.{if◌then◌else◌}
use Rattle.std.specs.List.{list_any, AllByRecursion}
use Rattle.std.specs.FinMap.{find, put}
use Rattle.std.proofs.lemmas.Bool.{or_parts, or_from, true≢false}
use Rattle.std.proofs.lemmas.Slice.Eq.{bytes_eq-Decides}
use Rattle.msi_base.specs.Lists.{list_cmp}
use Rattle.msi_table_cells.specs.declared.cell.ValueRef.{ValueRef}
use Rattle.msi_table_values.specs.Columns.{ColumnDef, types_of}
use Rattle.msi_table.specs.Cells.{table_bytes}
use Rattle.msi_table_cells.specs.StoredOrder.{row_cmp, in_stored_order}
use Rattle.msi_table_cells.proofs.RowOrderLemmas.{row_cmp-weak}
use Rattle.msi_table_cells.proofs.StableSortLemmas.{length_sorted}
use Rattle.msi_table_cells.specs.TableCells.{TableCells}
use Rattle.msi_database_schema.specs.Keys.{is_table_name, table_key}
use Rattle.msi_database_schema.specs.System.{tables_name, columns_name, validation_name}
use Rattle.msi_database_schema.proofs.RowOrderLemmas.{names_total}
use Rattle.msi_database_changes.specs.Database.{Database, Tables, table_at, with_table}
use Rattle.msi_database_changes.specs.Changes.{Change, no_change, with_stored}
use Rattle.msi_database_changes.specs.Texts.{PoolInUse}
use Rattle.msi_database_changes.specs.Create.{with_new_table}
use Rattle.msi_database_changes.specs.AddColumn.{with_column, with_new_column}
use Rattle.msi_database_changes.specs.Drop.{table_released}
use Rattle.msi_database_storage.specs.Streams.{Streams, table_stream, stream_of_rows, stored_stream, stored_streams}
use Rattle.msi_database_changes.specs.declared.storing.Stored.{Stored}
use Rattle.msi_database_changes.specs.Storing.{HaveOwnNames}
use Rattle.msi_database_storage.specs.Storing.{stored_in, tables_stored}
use Rattle.msi_database_storage.proofs.MapLemmas as maps
use Rattle.msi_database_schema.proofs.KeyLemmas.{table_keys_tell_names}
use Rattle.msi_database_storage.proofs.StreamLemmas.{list_cmp_exact}
use Rattle.msi_database_storage.proofs.StoredLemmas.{AreNames}

-- storing them is storing the tables
pub tables_stored_in : (d : Database) (names : List (List ℕ)) (streams : Streams) → stored_in (tables_stored d names) streams ≡ stored_streams d names streams
tables_stored_in d [] streams = refl
tables_stored_in d (n ∷ ns) streams = tables_stored_in d ns (stored_stream d.pool.long n (table_at n d) streams)

-- OWN NAMES

-- no name stands twice
abbrev pub AreApart : List (List ℕ) → Type 0
AreApart [] = Unit {0}
AreApart (n ∷ ns) = (list_any (bytes_eq n) ns ≡ false) × AreApart ns

others_apart : (d : Database) (name : List ℕ) (names : List (List ℕ)) → is_table_name name ≡ true → AreNames names → list_any (bytes_eq name) names ≡ false
    → AllByRecursion (λ f. f.name ≢ table_key name) (tables_stored d names)
others_apart d name [] is are apart = tt
others_apart d name (n ∷ ns) is are apart =
    let parts = or_parts (bytes_eq name n) (list_any (bytes_eq name) ns) apart in
    (λ e. true≢false (sym ((bytes_eq-Decides name n).1 (table_keys_tell_names name n is are.0 (sym e))) ∙ parts.0), others_apart d name ns is are.1 parts.1)

pub own_names : (d : Database) (names : List (List ℕ)) → AreNames names → AreApart names → HaveOwnNames (tables_stored d names)
own_names d [] are apart = tt
own_names d (n ∷ ns) are apart = (others_apart d n ns are.0 are.1 apart.0, own_names d ns are.1 apart.1)

-- STEP BY STEP

stored_same : (long : Bool) (columns : List ColumnDef) (rows : List (List ValueRef)) → table_stream long (Some (record { columns = columns; rows = Some (in_stored_order columns rows) })) ≡ stream_of_rows long columns rows
stored_same long columns rows = ap (λ (n : ℕ). if n == 0 then None else Some (table_bytes long (types_of columns) (in_stored_order columns rows))) (length_sorted (row_cmp columns) (row_cmp-weak columns) rows)

pub apart_names : (name other : List ℕ) → bytes_eq name other ≡ false → other ≢ name
apart_names name other apart e = true≢false (sym ((bytes_eq-Decides name other).1 (sym e)) ∙ apart)

-- the streams of other tables are as before
stays_stored : (long : Bool) (before after : Tables) (names : List (List ℕ)) → AllByRecursion (λ n. find list_cmp n after ≡ find list_cmp n before) names
    → ◌≡◌ {A = List Stored} (map (λ n. record { name = table_key n; bytes = table_stream long (find list_cmp n after) }) names) (map (λ n. record { name = table_key n; bytes = table_stream long (find list_cmp n before) }) names)
stays_stored long before after [] h = refl
stays_stored long before after (n ∷ ns) h = λ i. record { name = table_key n; bytes = table_stream long (h.0 i) } ∷ stays_stored long before after ns h.1 i

put_others : (name : List ℕ) (t : TableCells) (tables : Tables) (names : List (List ℕ)) → list_any (bytes_eq name) names ≡ false → AllByRecursion (λ n. find list_cmp n (put list_cmp name t tables) ≡ find list_cmp n tables) names
put_others name t tables [] apart = tt
put_others name t tables (n ∷ ns) apart =
    let parts = or_parts (bytes_eq name n) (list_any (bytes_eq name) ns) apart in
    (maps.find_put_other names_total list_cmp_exact n name t tables (apart_names name n parts.0), put_others name t tables ns parts.1)

joined : {X Y : Type 0} (f : X → Y) (xs ys : List X) → map f (xs ++ ys) ≡ map f xs ++ map f ys
joined f [] ys = refl
joined f (x ∷ xs) ys = ap (λ (l : List _). f x ∷ l) (joined f xs ys)

-- a table put, behind those that were stored before
module _ (d : Database) (name : List ℕ) (t : TableCells) (names : List (List ℕ)) (apart : list_any (bytes_eq name) names ≡ false) where
  pub put_stored : tables_stored (with_table name t d) (names ++ name ∷ []) ≡ tables_stored d names ++ record { name = table_key name; bytes = table_stream d.pool.long (Some t) } ∷ []
  put_stored =
      joined (λ (n : List ℕ). record { name = table_key n; bytes = table_stream d.pool.long (table_at n (with_table name t d)) }) names (name ∷ [])
      ∙ (λ i. stays_stored d.pool.long d.tables (put list_cmp name t d.tables) names (put_others name t d.tables names apart) i
      ++ record { name = table_key name; bytes = table_stream d.pool.long (maps.find_put_same names_total list_cmp_exact name t d.tables i) } ∷ [])

-- rows that are stored
pub rows_stored_last : (b : Change) (name : List ℕ) (columns : List ColumnDef) (rows : List (List ValueRef)) (pool : PoolInUse) → list_any (bytes_eq name) b.stored ≡ false
    → tables_stored (with_stored name columns rows pool b).database (with_stored name columns rows pool b).stored
    ≡ tables_stored b.database b.stored ++ record { name = table_key name; bytes = stream_of_rows b.database.pool.long columns rows } ∷ []
rows_stored_last b name columns rows pool apart =
    put_stored b.database name (record { columns = columns; rows = Some (in_stored_order columns rows) }) b.stored apart
    ∙ ap (λ (o : Option (List ℕ)). tables_stored b.database b.stored ++ record { name = table_key name; bytes = o } ∷ []) (stored_same b.database.pool.long columns rows)

-- the first rows
pub rows_stored_first : (d : Database) (name : List ℕ) (columns : List ColumnDef) (rows : List (List ValueRef)) (pool : PoolInUse)
    → tables_stored (with_stored name columns rows pool (no_change d)).database (name ∷ []) ≡ record { name = table_key name; bytes = stream_of_rows d.pool.long columns rows } ∷ []
rows_stored_first d name columns rows pool = rows_stored_last (no_change d) name columns rows pool refl

-- a new table
pub new_stored_last : (b : Change) (name : List ℕ) (columns : List ColumnDef) → list_any (bytes_eq name) b.stored ≡ false
    → tables_stored (with_new_table name columns b).database (with_new_table name columns b).stored ≡ tables_stored b.database b.stored ++ record { name = table_key name; bytes = None } ∷ []
new_stored_last b name columns apart = put_stored b.database name (record { columns = columns; rows = Some [] }) b.stored apart

-- and a table that is dropped
pub dropped_stored_first : (d : Database) (name : List ℕ) (t : TableCells)
    → tables_stored (table_released name t (no_change d)).database (name ∷ []) ≡ record { name = table_key name; bytes = None } ∷ []
dropped_stored_first d name t = ap (λ (o : Option TableCells). record { name = table_key name; bytes = table_stream d.pool.long o } ∷ []) (maps.find_without_same names_total list_cmp_exact name d.tables)

-- WHOLE CHANGES

single : (name : List ℕ) (o : Option (List ℕ)) → List Stored
single name o = record { name = name; bytes = o } ∷ []

-- a table that is created, after rows of the three system tables
pub created_stored : (d : Database) (name : List ℕ) (columns cs ts vs : List ColumnDef) (c_rows t_rows v_rows : List (List ValueRef)) (c_pool t_pool v_pool : PoolInUse)
    → list_any (bytes_eq name) (columns_name ∷ tables_name ∷ validation_name ∷ []) ≡ false
    → let c = with_new_table name columns (with_stored validation_name vs v_rows v_pool (with_stored tables_name ts t_rows t_pool (with_stored columns_name cs c_rows c_pool (no_change d)))) in
    tables_stored c.database c.stored
    ≡ record { name = table_key columns_name; bytes = stream_of_rows d.pool.long cs c_rows }
    ∷ record { name = table_key tables_name; bytes = stream_of_rows d.pool.long ts t_rows }
    ∷ record { name = table_key validation_name; bytes = stream_of_rows d.pool.long vs v_rows }
    ∷ record { name = table_key name; bytes = None } ∷ []
unfolding single
created_stored d name columns cs ts vs c_rows t_rows v_rows c_pool t_pool v_pool apart =
    let b₁ : Change = with_stored columns_name cs c_rows c_pool (no_change d) in
    let b₂ : Change = with_stored tables_name ts t_rows t_pool b₁ in
    let b₃ : Change = with_stored validation_name vs v_rows v_pool b₂ in
    new_stored_last b₃ name columns apart
    ∙ ap (λ (es : List Stored). es ++ single (table_key name) None) (rows_stored_last b₂ validation_name vs v_rows v_pool refl
    ∙ ap (λ (es : List Stored). es ++ single (table_key validation_name) (stream_of_rows d.pool.long vs v_rows)) (rows_stored_last b₁ tables_name ts t_rows t_pool refl
    ∙ ap (λ (es : List Stored). es ++ single (table_key tables_name) (stream_of_rows d.pool.long ts t_rows)) (rows_stored_first d columns_name cs c_rows c_pool)))

-- a table that is dropped, and rows of the system tables after it; `_Validation` may be missing
module _ (d : Database) (name : List ℕ) (t : TableCells) (cs ts vs : List ColumnDef) (c_rows t_rows v_rows : List (List ValueRef)) (c_pool t_pool v_pool : PoolInUse)
    (validation : bytes_eq validation_name name ≡ false) (columns : bytes_eq columns_name name ≡ false) (tables : bytes_eq tables_name name ≡ false) where
  abbrev b₀ : Change
  b₀ = table_released name t (no_change d)

  pub dropped_stored : let c = with_stored tables_name ts t_rows t_pool (with_stored columns_name cs c_rows c_pool (with_stored validation_name vs v_rows v_pool b₀)) in
      tables_stored c.database c.stored
      ≡ record { name = table_key name; bytes = None }
      ∷ record { name = table_key validation_name; bytes = stream_of_rows d.pool.long vs v_rows }
      ∷ record { name = table_key columns_name; bytes = stream_of_rows d.pool.long cs c_rows }
      ∷ record { name = table_key tables_name; bytes = stream_of_rows d.pool.long ts t_rows } ∷ []
  unfolding single
  dropped_stored =
      let b₁ : Change = with_stored validation_name vs v_rows v_pool b₀ in
      let b₂ : Change = with_stored columns_name cs c_rows c_pool b₁ in
      rows_stored_last b₂ tables_name ts t_rows t_pool (or_from (bytes_eq tables_name name) false tables refl)
      ∙ ap (λ (es : List Stored). es ++ single (table_key tables_name) (stream_of_rows d.pool.long ts t_rows)) (rows_stored_last b₁ columns_name cs c_rows c_pool (or_from (bytes_eq columns_name name) false columns refl)
      ∙ ap (λ (es : List Stored). es ++ single (table_key columns_name) (stream_of_rows d.pool.long cs c_rows)) (rows_stored_last b₀ validation_name vs v_rows v_pool (or_from (bytes_eq validation_name name) false validation refl)
      ∙ ap (λ (es : List Stored). es ++ single (table_key validation_name) (stream_of_rows d.pool.long vs v_rows)) (dropped_stored_first d name t)))

  pub dropped_unvalidated : let c = with_stored tables_name ts t_rows t_pool (with_stored columns_name cs c_rows c_pool b₀) in
      tables_stored c.database c.stored
      ≡ record { name = table_key name; bytes = None }
      ∷ record { name = table_key columns_name; bytes = stream_of_rows d.pool.long cs c_rows }
      ∷ record { name = table_key tables_name; bytes = stream_of_rows d.pool.long ts t_rows } ∷ []
  unfolding single
  dropped_unvalidated =
      let b₂ : Change = with_stored columns_name cs c_rows c_pool b₀ in
      rows_stored_last b₂ tables_name ts t_rows t_pool (or_from (bytes_eq tables_name name) false tables refl)
      ∙ ap (λ (es : List Stored). es ++ single (table_key tables_name) (stream_of_rows d.pool.long ts t_rows)) (rows_stored_last b₀ columns_name cs c_rows c_pool (or_from (bytes_eq columns_name name) false columns refl)
      ∙ ap (λ (es : List Stored). es ++ single (table_key columns_name) (stream_of_rows d.pool.long cs c_rows)) (dropped_stored_first d name t))

-- a table that gets a column, after rows of the two system tables that describe it
pub column_stored : (d : Database) (name : List ℕ) (column : ColumnDef) (t : TableCells) (cs vs : List ColumnDef) (c_rows v_rows : List (List ValueRef)) (c_pool v_pool : PoolInUse)
    → list_any (bytes_eq name) (columns_name ∷ validation_name ∷ []) ≡ false
    → let c = with_new_column name column t (with_stored validation_name vs v_rows v_pool (with_stored columns_name cs c_rows c_pool (no_change d))) in
    tables_stored c.database c.stored
    ≡ record { name = table_key columns_name; bytes = stream_of_rows d.pool.long cs c_rows }
    ∷ record { name = table_key validation_name; bytes = stream_of_rows d.pool.long vs v_rows }
    ∷ record { name = table_key name; bytes = table_stream d.pool.long (Some (with_column column t)) } ∷ []
unfolding single
column_stored d name column t cs vs c_rows v_rows c_pool v_pool apart =
    let b₁ : Change = with_stored columns_name cs c_rows c_pool (no_change d) in
    let b₂ : Change = with_stored validation_name vs v_rows v_pool b₁ in
    put_stored b₂.database name (with_column column t) b₂.stored apart
    ∙ ap (λ (es : List Stored). es ++ single (table_key name) (table_stream d.pool.long (Some (with_column column t)))) (rows_stored_last b₁ validation_name vs v_rows v_pool refl
    ∙ ap (λ (es : List Stored). es ++ single (table_key validation_name) (stream_of_rows d.pool.long vs v_rows)) (rows_stored_first d columns_name cs c_rows c_pool))
