-- The places of a pool that cells of tables name.
use Rattle.std.specs.Prelude.{ℕ, ◌+◌, ◌==◌, ◌||◌, Bool, List, ◌++◌, count_by, length, map, nat_le, nat_lt, slice_get}
use Rattle.std.specs.Prelude.{slice_index}
use Rattle.std.specs.List.{flat_map, list_all, list_any}
use Rattle.msi_base.specs.Lists.{tabulated}
use Rattle.msi_pool.specs.FirstFit.{count_of}
use Rattle.msi_pool.specs.Pool.{Place, Pool, with_named_texts}
use Rattle.msi_table_cells.specs.declared.cell.ValueRef.{ValueRef}
use Rattle.msi_table.specs.Census.{CensusDef, numbers_of_rows}
use Rattle.msi_table.specs.Tables.{TableDef}
use Rattle.msi_database_changes.specs.Database.{Tables, rows_of}
use Rattle.msi_database_storage.specs.Streams.{Streams}
use Rattle.msi_database_storage.specs.Kept.{table_kept}

-- the numbers that cells of tables name, and those of tables and of rows beside them
abbrev pub numbers_of_tables : Tables → List ℕ
numbers_of_tables tables = flat_map (λ t. numbers_of_rows (rows_of t.1)) tables

abbrev pub numbers_named : Streams → Bool → List TableDef → List (List ValueRef) → List ℕ
numbers_named root long tables rows = numbers_of_tables (map (table_kept root long) tables) ++ numbers_of_rows rows

-- a pool whose free places have no text but at these numbers
abbrev pub pool_shown : List ℕ → Pool → Pool
pool_shown named raw = record raw { places = with_named_texts (λ number. list_any (λ n. n == number) named) raw.places }

-- whether a cell of one census names a place, or one of the other
abbrev pub is_named_in : CensusDef → CensusDef → ℕ → Bool
is_named_in census other i = nat_lt 0 (slice_index census.counts i) || nat_lt 0 (slice_index other.counts i)

-- whether each place's count is at least the number of the cells that name it
abbrev pub suffices : List Place → List ℕ → ℕ → Bool
suffices places numbers i = nat_le (count_by (λ n. n == i + 1) numbers) (count_of (slice_get places i))

abbrev pub all_suffice : List Place → List ℕ → Bool
all_suffice places numbers = list_all (λ enough. enough) (tabulated (length places) (suffices places numbers))
