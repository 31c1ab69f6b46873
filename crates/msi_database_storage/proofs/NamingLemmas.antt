-- A census of tables: how far its loop has come, and what it says of free places.
use Rattle.std.proofs.Common.{◌≡◌, ℕ, ◌+◌, ◌<◌, Bool, false, ◌||◌, ◌==◌, List, [], ◌∷◌, ◌++◌, map, length, take, get_or, unwrap_or, sym, ap, subst, ◌∙◌, arith, append-nil}
use Rattle.std.specs.Prelude.{nat_lt}
use Rattle.std.specs.List.{AllByRecursion, list_any}
use Rattle.std.proofs.lemmas.Grind.{flat_map-append}
use Rattle.std.proofs.lemmas.List.{map_push, take_more}
use Rattle.std.proofs.lemmas.List.Folds.{list_any-append}
use Rattle.std.proofs.lemmas.Option.{get_or_from_slice_get}
use Rattle.std.proofs.Math.Seq.{take-length}
use Rattle.msi_base.specs.Lists.{tabulated}
use Rattle.msi_base.proofs.ListLemmas.{all_dropped, drop_next, tabulated_at}
use Rattle.msi_pool.specs.Pool.{Pool, without_unnamed_texts}
use Rattle.msi_pool.proofs.ForgottenLemmas.{marks_stand}
use Rattle.msi_table_values.specs.Columns.{types_of}
use Rattle.msi_table.specs.Cells.{rows_in}
use Rattle.msi_table.specs.Census.{CensusDef, CountsMore, IsCensus, numbers_of_rows}
use Rattle.msi_table.specs.Tables.{TableDef, rows_spelled}
use Rattle.msi_table.proofs.CensusLemmas.{any_counted}
use Rattle.msi_table.proofs.ReadRowsLemmas.{length-tabulated}
use Rattle.msi_database_schema.specs.Keys.{table_key}
use Rattle.msi_database_changes.specs.Database.{rows_of}
use Rattle.msi_database_storage.specs.Streams.{Streams, stream_at}
use Rattle.msi_database_storage.specs.Kept.{AreAsLong, table_kept}
use Rattle.msi_database_storage.specs.Naming.{is_named_in, numbers_of_tables, pool_shown}

pub long_here : (long : Bool) (ts : List TableDef) (i : ℕ) (t : TableDef) → i < length ts → t ≡ get_or ts i t → AreAsLong long ts → t.long ≡ long
long_here long ts i t h is all = (subst (AllByRecursion (λ t. t.long ≡ long)) (drop_next ts i t h is) (all_dropped (λ t. t.long ≡ long) ts i all)).0

-- one table more
numbers_more : (streams : Streams) (long : Bool) (ts : List TableDef) (i : ℕ) (t : TableDef) → i < length ts → t ≡ get_or ts i t
    → numbers_of_tables (map (table_kept streams long) (take (i + 1) ts)) ≡ numbers_of_tables (map (table_kept streams long) (take i ts)) ++ numbers_of_rows (rows_of (table_kept streams long t).1)
numbers_more streams long ts i t h is =
    ap (λ (us : List TableDef). numbers_of_tables (map (table_kept streams long) us)) (take_more ts i t h)
    ∙ ap numbers_of_tables (map_push (table_kept streams long) (take i ts) (get_or ts i t))
    ∙ flat_map-append (λ t. numbers_of_rows (rows_of t.1)) (map (table_kept streams long) (take i ts)) (table_kept streams long (get_or ts i t) ∷ [])
    ∙ ap (λ l. numbers_of_tables (map (table_kept streams long) (take i ts)) ++ l) (append-nil (numbers_of_rows (rows_of (table_kept streams long (get_or ts i t)).1)))
    ∙ ap (λ (u : TableDef). numbers_of_tables (map (table_kept streams long) (take i ts)) ++ numbers_of_rows (rows_of (table_kept streams long u).1)) (sym is)

pub table_counted : (streams : Streams) (ts : List TableDef) (i : ℕ) (t : TableDef) (bytes name : List ℕ) (old new : CensusDef) (many : ℕ) → i < length ts → t ≡ get_or ts i t
    → name ≡ t.name → bytes ≡ unwrap_or (stream_at (table_key name) streams) []
    → ((long : Bool) → AreAsLong long ts → IsCensus many (numbers_of_tables (map (table_kept streams long) (take i ts))) old)
    → CountsMore (numbers_of_rows (unwrap_or (rows_spelled t bytes) [])) old new
    → (long : Bool) → AreAsLong long ts → IsCensus many (numbers_of_tables (map (table_kept streams long) (take (i + 1) ts))) new
table_counted streams ts i t bytes name old new many h is named found so_far counted long all =
    subst (λ l. IsCensus many l new)
    ((λ k. numbers_of_tables (map (table_kept streams long) (take i ts)) ++ numbers_of_rows (unwrap_or (rows_in (long_here long ts i t h is all k) (types_of t.columns) ((found ∙ ap (λ name. unwrap_or (stream_at (table_key name) streams) []) named) k)) []))
    ∙ sym (numbers_more streams long ts i t h is))
    (counted many (numbers_of_tables (map (table_kept streams long) (take i ts))) (so_far long all))

pub all_tables : (streams : Streams) (ts : List TableDef) (i : ℕ) (census : CensusDef) (many : ℕ) → i ≡ length ts
    → ((long : Bool) → AreAsLong long ts → IsCensus many (numbers_of_tables (map (table_kept streams long) (take i ts))) census)
    → (long : Bool) → AreAsLong long ts → IsCensus many (numbers_of_tables (map (table_kept streams long) ts)) census
all_tables streams ts i census many done so_far long all = subst (λ (us : List TableDef). IsCensus many (numbers_of_tables (map (table_kept streams long) us)) census) (ap (λ n. take n ts) done ∙ take-length ts) (so_far long all)

-- WHAT IT SAYS OF FREE PLACES

-- a place is marked where a cell of one census names it, or one of the other
marks_name : (many : ℕ) (ms ns : List ℕ) (a b : CensusDef) (marks : List Bool) → IsCensus many ms a → IsCensus many ns b
    → marks ≡ tabulated (length a.counts) (is_named_in a b)
    → (i : ℕ) → i < many → get_or marks i false ≡ list_any (λ n. n == i + 1) (ms ++ ns)
marks_name many ms ns a b marks one other is i h =
    ap (λ l. get_or l i false) is ∙ at_place (is_named_in a b) (length a.counts) i (omega (arith, h, one.many_counts))
    ∙ (λ k. nat_lt 0 (one.counts i h k) || nat_lt 0 (other.counts i h k))
    ∙ (λ k. any_counted (λ n. n == i + 1) ms k || any_counted (λ n. n == i + 1) ns k)
    ∙ sym (list_any-append (λ n. n == i + 1) ms ns)
  where
    at_place : (f : ℕ → Bool) (n i : ℕ) → i < n → get_or (tabulated n f) i false ≡ f i
    at_place f n i h = get_or_from_slice_get (tabulated n f) i (f i) false (tabulated_at f n i h)

pub marks_many : (many : ℕ) (a b : CensusDef) (marks : List Bool) → length a.counts ≡ many → marks ≡ tabulated (length a.counts) (is_named_in a b) → length marks ≡ many
marks_many many a b marks same is = ap length is ∙ length-tabulated (length a.counts) (is_named_in a b) ∙ same

pub shown_by : (raw new : Pool) (ms ns : List ℕ) (a b : CensusDef) (marks : List Bool) → IsCensus (length raw.places) ms a → IsCensus (length raw.places) ns b
    → marks ≡ tabulated (length a.counts) (is_named_in a b)
    → new ≡ record raw { places = without_unnamed_texts marks raw.places } → new ≡ pool_shown (ms ++ ns) raw
shown_by raw new ms ns a b marks one other is new_is =
    let many : length marks ≡ length raw.places = marks_many (length raw.places) a b marks one.many_counts is in
    new_is ∙ (λ k. record raw {
      places = marks_stand marks (λ number. list_any (λ n. n == number) (ms ++ ns)) raw.places many
          (λ i h. marks_name (length raw.places) ms ns a b marks one other is i (omega (arith, h, many))) k;
    })
