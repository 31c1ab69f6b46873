-- The rows that an accepted change writes can be stored.
use Rattle.std.proofs.Common.{◌≡◌, ℕ, Bool, true, List, length, Some, sym, ap, subst, ◌∙◌, ◌⊎◌, arith}
use Rattle.std.proofs.lemmas.List.Sorted.{IsPermutation-sym, length_permutation}
use Rattle.msi_database_storage.specs.Streams.{Streams}
use Rattle.std.specs.FinMap.{entries}
use Rattle.msi_container_format.specs.Streams as maps
use Rattle.msi_pool.specs.Pool.{Pool}
use Rattle.msi_table_cells.specs.declared.cell.ValueRef.{ValueRef}
use Rattle.msi_table_values.specs.Columns.{ColumnDef, types_of}
use Rattle.msi_table.specs.Tables.{TableDef}
use Rattle.msi_table_cells.specs.Fitting.{FitsRow, FitsTable}
use Rattle.msi_table_cells.specs.StoredOrder.{row_cmp, in_stored_order}
use Rattle.msi_table_cells.proofs.StableSortLemmas.{sort_moves}
use Rattle.msi_database_schema.proofs.RowOrderLemmas.{names_total}
use Rattle.msi_database_changes.specs.Database.{table_at}
use Rattle.msi_database_changes.specs.Changes.{Change, no_change, with_stored}
use Rattle.msi_database_changes.specs.Texts.{PoolInUse}
use Rattle.msi_database_changes.proofs.steps.AtWidthLemmas.{IsChangeAtWidth, IsTableChangeAtWidth}
use Rattle.msi_database_changes.proofs.describing.KindsKeptLemmas.{all_permuted}
use Rattle.msi_database_storage.specs.Kept.{database_kept, kept_of}
use Rattle.msi_database.specs.Keeping.{AreKept}
use Rattle.msi_database_storage.proofs.MapLemmas as lists
use Rattle.msi_database_storage.proofs.StreamLemmas.{list_cmp_exact}
use Rattle.msi_database.proofs.keeping.AcceptedChangeLemmas.{regular}
use Rattle.msi_database.proofs.keeping.KeepingLemmas.{change_comes}
use Rattle.msi_database.proofs.calls.FinishedChangeLemmas.{known_sound}

-- rows whose stored order fits fit
pub unsorted_fits : (long : Bool) (columns : List ColumnDef) (rows : List (List ValueRef)) → FitsTable long (types_of columns) (in_stored_order columns rows) → FitsTable long (types_of columns) rows
unsorted_fits long columns rows f =
    let moves = sort_moves (row_cmp columns) rows in
    let many : length (in_stored_order columns rows) ≡ length rows = length_permutation rows (in_stored_order columns rows) moves in record {
      some_column = f.some_column;
      few_rows = omega (arith, many, f.few_rows);
      each_row = all_permuted (FitsRow long (types_of columns)) (in_stored_order columns rows) rows (IsPermutation-sym rows (in_stored_order columns rows) moves) f.each_row;
    }

module _ (pool : Pool) (tables : List TableDef) (streams : Streams) (kept : AreKept pool tables streams true) (c : Change)
    (change : IsChangeAtWidth (database_kept pool tables streams) c ⊎ IsTableChangeAtWidth (database_kept pool tables streams) c) where
  -- of a table that the change leaves with these rows
  pub can_store : (name : List ℕ) (columns : List ColumnDef) (rows : List (List ValueRef)) → table_at name c.database ≡ Some (record { columns = columns; rows = Some (in_stored_order columns rows) })
      → FitsTable pool.long (types_of columns) rows
  can_store name columns rows found =
      let old = kept_of pool tables streams in
      let sound = known_sound pool tables streams kept in
      let comes = change_comes old c kept.kept sound change in
      let fits : FitsTable c.database.pool.long (types_of columns) (in_stored_order columns rows) = comes.tracks.fits (regular old kept.kept sound).fit name (record { columns = columns; rows = Some (in_stored_order columns rows) }) found in
      unsorted_fits pool.long columns rows (subst (λ (long : Bool). FitsTable long (types_of columns) (in_stored_order columns rows)) comes.tracks.long fits)

  -- of the table that a change of rows stores
  pub stored_can_store : (name : List ℕ) (columns : List ColumnDef) (rows : List (List ValueRef)) (used : PoolInUse) → with_stored name columns rows used (no_change (database_kept pool tables streams)) ≡ c
      → FitsTable pool.long (types_of columns) rows
  stored_can_store name columns rows used is = can_store name columns rows (ap (λ (x : Change). table_at name x.database) (sym is)
      ∙ lists.find_put_same names_total list_cmp_exact name (record { columns = columns; rows = Some (in_stored_order columns rows) }) (database_kept pool tables streams).tables)

-- the same over a map of streams
pub rows_can_store : (pool : Pool) (tables : List TableDef) (m : maps.Streams) → AreKept pool tables (entries m) true → (c : Change) → IsChangeAtWidth (database_kept pool tables (entries m)) c ⊎ IsTableChangeAtWidth (database_kept pool tables (entries m)) c
    → (name : List ℕ) (columns : List ColumnDef) (rows : List (List ValueRef)) (used : PoolInUse) → with_stored name columns rows used (no_change (database_kept pool tables (entries m))) ≡ c → FitsTable pool.long (types_of columns) rows
rows_can_store pool tables m kept c change = stored_can_store pool tables (entries m) kept c change
