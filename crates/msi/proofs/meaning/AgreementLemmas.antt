-- Streams that are the same at the keys of a part spell the same part.
use Rattle.std.proofs.Common.{◌≡◌, ℕ, Bool, true, false, List, [], ◌∷◌, ◌++◌, map, Option, Some, unwrap_or, refl, sym, ap, subst, ◌∙◌, ◌==◌, ◌+◌}
use Rattle.std.specs.Prelude.{MatchBool, IsSomeAnd, option_map, option_and_then}
use Rattle.std.specs.List.{list_any, AllByRecursion, enumerate_from}
use Rattle.msi_pool.specs.Pool.{Pool, Place, IsPool, forgotten}
use Rattle.msi_summary.specs.Properties.{Properties}
use Rattle.msi_summary.specs.Summary.{SpellsSummary}
use Rattle.msi_table.specs.ValueRef.{ValueRef}
use Rattle.msi_table_values.specs.Columns.{ColumnDef, types_of}
use Rattle.msi_table.specs.Cells.{rows_in}
use Rattle.msi_table.specs.CellValues.{row_values}
use Rattle.msi_database_schema.specs.Keys.{table_key, summary_key, string_pool_name, string_data_name}
use Rattle.msi_database_schema.specs.System.{tables_name, columns_name, validation_name, tables_columns, columns_columns, validation_columns}
use Rattle.msi_database_schema.specs.Schema.{schema_of}
use Rattle.msi_table.specs.Census.{numbers_of_rows}
use Rattle.msi_database.specs.Database.{Database, Tables, named_numbers, has_table}
use Rattle.msi_database_storage.specs.Streams.{Streams, stream_at, stored_rows}
use Rattle.msi_database_storage.specs.StreamNames as databases
use Rattle.msi_database_storage.specs.Kept.{Kept}
use Rattle.msi_database_storage.specs.Agreement.{DatabaseIs, described_by, is_shown, schema_in}
use Rattle.msi_database.specs.Keeping.{IsKeptDatabase}
use Rattle.msi_database_storage.proofs.StreamLemmas.{AreSorted}
use Rattle.msi_database_storage.proofs.ReadingLemmas.{joined}
use Rattle.msi.specs.Meaning.{SummaryIs, RawPoolIs, PoolIs, shown_pool}

-- THE SUMMARY AND THE POOL

pub summary_same : (before after : Streams) (summary : Properties) → stream_at summary_key after ≡ stream_at summary_key before → SummaryIs before summary → SummaryIs after summary
summary_same before after summary e h = subst (λ (o : Option (List ℕ)). IsSomeAnd o (λ bytes. SpellsSummary bytes summary)) (sym e) h

-- what the two streams of a pool hold
abbrev pub IsRaw : Pool → Option (List ℕ) → Option (List ℕ) → Type 0
IsRaw raw written texts = IsSomeAnd written (λ entries. IsSomeAnd texts (λ text_bytes. IsPool entries text_bytes raw))

pub raw_from : (raw : Pool) (o p q r : Option (List ℕ)) → o ≡ p → q ≡ r → IsRaw raw p r → IsRaw raw o q
raw_from raw o p q r e f h = subst (λ (x : Option (List ℕ)). IsRaw raw x q) (sym e) (subst (λ (y : Option (List ℕ)). IsRaw raw p y) (sym f) h)

abbrev pub SameStream : Streams → Streams → List ℕ → Type 0
SameStream before after name = stream_at (table_key name) after ≡ stream_at (table_key name) before

pub raw_pool_same : (before after : Streams) (raw : Pool) → SameStream before after string_pool_name → SameStream before after string_data_name → RawPoolIs before raw → RawPoolIs after raw
raw_pool_same before after raw e f h = raw_from raw _ _ _ _ e f h

-- tests that answer alike
abbrev pub TestAlike : (ℕ → Bool) → (ℕ → Bool) → Type 0
TestAlike is_named is_other = (number : ℕ) → is_named number ≡ is_other number

shown_alike : (is_named is_other : ℕ → Bool) → TestAlike is_named is_other → (i : ℕ) (places : List Place)
    → map (λ e. forgotten (is_named e.0) e.1) (enumerate_from i places) ≡ map (λ e. forgotten (is_other e.0) e.1) (enumerate_from i places)
shown_alike is_named is_other alike i [] = refl
shown_alike is_named is_other alike i (p ∷ ps) = λ k. forgotten (alike i k) p ∷ shown_alike is_named is_other alike (i + 1) ps k

pub shown_pool_alike : (is_named is_other : ℕ → Bool) (raw : Pool) → TestAlike is_named is_other → shown_pool is_named raw ≡ shown_pool is_other raw
shown_pool_alike is_named is_other raw alike = λ k. record raw { places = shown_alike is_named is_other alike 1 raw.places k }

pub pool_same : (before after : Streams) (d e : Database) → SameStream before after string_pool_name → SameStream before after string_data_name
    → e.pool ≡ d.pool → TestAlike (is_shown before d) (is_shown after e) → PoolIs before d → PoolIs after e
pool_same before after d e k l same alike h = (h.0, raw_pool_same before after h.0 k l h.1, same ∙ h.2 ∙ shown_pool_alike (is_shown before d) (is_shown after e) h.0 alike)

-- THE DATABASE

pub stored_same : (before after : Streams) (long : Bool) (columns : List ColumnDef) (name : List ℕ) → SameStream before after name → stored_rows after long columns name ≡ stored_rows before long columns name
stored_same before after long columns name e = ap (λ (o : Option (List ℕ)). rows_in long (types_of columns) (unwrap_or o [])) e

-- where the stream of `_Validation` is the same, the same places are named
pub shown_same : (before after : Streams) (d : Database) → SameStream before after validation_name → TestAlike (is_shown before d) (is_shown after d)
shown_same before after d e number =
    ap (λ (o : Option (List (List ValueRef))). list_any (λ n. n == number) (named_numbers d ++ numbers_of_rows (unwrap_or o [])))
    (sym (stored_same before after d.pool.long validation_columns validation_name e))

each_same : (before after : Streams) (long : Bool) (tables : Tables) → AllByRecursion (λ t. SameStream before after t.0) tables
    → AllByRecursion (λ t. t.1.rows ≡ stored_rows before long t.1.columns t.0) tables → AllByRecursion (λ t. t.1.rows ≡ stored_rows after long t.1.columns t.0) tables
each_same before after long [] same h = tt
each_same before after long (t ∷ ts) same h = (h.0 ∙ sym (stored_same before after long t.1.columns t.0 same.0), each_same before after long ts same.1 h.1)

unlisted_by : (listed : Bool) (rows : List (List ValueRef)) (o p : Option (List (List ValueRef))) → o ≡ p → MatchBool listed (rows ≡ []) (p ≡ Some rows) → MatchBool listed (rows ≡ []) (o ≡ Some rows)
unlisted_by true rows o p e h = h
unlisted_by false rows o p e h = e ∙ h

-- the values of the three tables that describe tables
pub record SameDescription (before after : Streams) (pool other : Pool) : Type 0 where
  pub tables : described_by after other tables_columns tables_name ≡ described_by before pool tables_columns tables_name
  pub columns : described_by after other columns_columns columns_name ≡ described_by before pool columns_columns columns_name
  pub validation : described_by after other validation_columns validation_name ≡ described_by before pool validation_columns validation_name

pub schema_same : (before after : Streams) (pool other : Pool) → SameDescription before after pool other → schema_in after other ≡ schema_in before pool
unfolding joined
schema_same before after pool other same = λ k. option_and_then schema_of (joined (same.tables k) (same.columns k) (same.validation k))

described_same : (before after : Streams) (pool : Pool) (columns : List ColumnDef) (name : List ℕ) → SameStream before after name → described_by after pool columns name ≡ described_by before pool columns name
described_same before after pool columns name e = ap (option_map (map (row_values pool.places))) (stored_same before after pool.long columns name e)

-- the streams of the tables are the same, the two that are always there and `_Validation` among them
pub record SameTables (before after : Streams) (d : Database) : Type 0 where
  pub each : AllByRecursion (λ t. SameStream before after t.0) d.tables
  pub tables : SameStream before after tables_name
  pub columns : SameStream before after columns_name
  pub validation : SameStream before after validation_name

pub database_same : (before after : Streams) (d : Database) → SameTables before after d → DatabaseIs before d → DatabaseIs after d
database_same before after d same h = record {
  tables = each_same before after d.pool.long d.tables same.each h.tables;
  unlisted = unlisted_by (has_table validation_name d) d.unlisted_validation _ _ (stored_same before after d.pool.long validation_columns validation_name same.validation) h.unlisted;
  schema = schema_same before after d.pool d.pool (record {
    tables = described_same before after d.pool tables_columns tables_name same.tables;
    columns = described_same before after d.pool columns_columns columns_name same.columns;
    validation = described_same before after d.pool validation_columns validation_name same.validation;
  }) ∙ h.schema;
}

-- all streams of tables are the same
every_same : (before after : Streams) → ((name : List ℕ) → SameStream before after name) → (tables : Tables) → AllByRecursion (λ t. SameStream before after t.0) tables
every_same before after same [] = tt
every_same before after same (t ∷ ts) = (same t.0, every_same before after same ts)

pub all_same : (before after : Streams) (d : Database) → ((name : List ℕ) → SameStream before after name) → SameTables before after d
all_same before after d same = record { each = every_same before after same d.tables; tables = same tables_name; columns = same columns_name; validation = same validation_name }

-- a kept database goes on to be kept where the streams of its tables stay
pub kept_same : (k : Kept) (after : Streams) → AreSorted after → databases.HaveShortNames after → SameTables k.streams after k.database → IsKeptDatabase k
    → IsKeptDatabase (record k { streams = after })
kept_same k after sorted names same h = record {
  in_order = sorted;
  names = names;
  spelled = database_same k.streams after k.database same h.spelled;
  rows = h.rows;
  unlisted = h.unlisted;
  few = h.few;
  counts = h.counts;
  freed = h.freed;
}
