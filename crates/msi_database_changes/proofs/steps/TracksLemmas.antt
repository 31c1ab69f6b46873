-- What a change keeps, step by step: the tables that aren't stored anew, the pool, and rows that fit their columns.
use Rattle.std.proofs.Common.{◌≡◌, ℕ, Bool, true, false, cond, not, List, [], ◌∷◌, ◌++◌, filter, Option, Some, None, refl, sym, ap, ◌∙◌, subst, arith, bytes_eq}
use Rattle.std.specs.Prelude.{IsSomeAnd, unwrap_or}
use Rattle.std.specs.List.{list_any, list_all}
use Rattle.std.specs.Ordering.{eq_by_cmp}
use Rattle.std.specs.Cmp.Lexicographic.{nat_list_cmp_total}
use Rattle.std.specs.FinMap.Entries.{find-put}
use Rattle.std.proofs.lemmas.Bool.{and_parts, and_from, or_parts}
use Rattle.std.proofs.lemmas.Option.{same_Some, none-some}
use Rattle.msi_pool.specs.FirstFitLaws.{TakenPlacesHoldTheirText, GivenBackTakesOne}
use Rattle.msi_pool.specs.Pool.{Place}
use Rattle.msi_base.specs.Lists.{list_cmp}
use Rattle.msi_table_cells.specs.declared.cell.ValueRef.{ValueRef}
use Rattle.msi_table_values.specs.Columns.{ColumnDef, types_of}
use Rattle.msi_table_cells.specs.Fitting.{FitsRow, FitsTable}
use Rattle.msi_table_cells.specs.StoredOrder.{in_stored_order}
use Rattle.msi_table_cells.proofs.SortedFitsLemmas.{sorted_fits}
use Rattle.msi_database_schema.specs.Keys.{is_table_name}
use Rattle.msi_database_changes.specs.Database.{Database, table_at, rows_of, is_sound}
use Rattle.msi_table_cells.specs.TableCells.{TableCells}
use Rattle.msi_database_changes.specs.Changes.{Change, no_change, pool_of, with_stored}
use Rattle.msi_database_changes.specs.Texts.{PoolInUse, rows_released}
use Rattle.msi_database_changes.specs.Drop.{is_row_about, rows_forgotten, table_released}
use Rattle.msi_base.proofs.ListLemmas.{all_kept, length-filter-le}
use Rattle.msi_base.proofs.BoolLemmas.{by_test}
use Rattle.msi_database_schema.proofs.FaultLemmas.{texts_flip}
use Rattle.msi_database_changes.proofs.steps.StoredLemmas.{WellFormed}
use Rattle.msi_database_changes.proofs.describing.DescribingLemmas.{put_elsewhere}
use Rattle.msi_database_changes.proofs.steps.UntouchedTableLemmas.{found_now, released_leaves}
use Rattle.msi_database_changes.proofs.text_counts.PoolStepLemmas.{PlacesKept, PoolStep, rows_released_step}

-- a table's rows can be read, and fit its columns
abbrev pub TableFits : Bool → TableCells → Type 0
TableFits long t = IsSomeAnd t.rows (FitsTable long (types_of t.columns))

abbrev pub AllFit : Database → Type 0
AllFit d = (name : List ℕ) (t : TableCells) → table_at name d ≡ Some t → TableFits d.pool.long t

pub record Tracks (d : Database) (b : Change) : Type 0 where
  pub others : (other : List ℕ) → list_any (bytes_eq other) b.stored ≡ false → table_at other b.database ≡ table_at other d
  pub names : list_all is_table_name b.stored ≡ true
  pub kept : PlacesKept d.pool.places → PlacesKept b.database.pool.places
  pub unused : b.is_pool_used ≡ false → b.database.pool ≡ d.pool
  pub long : b.database.pool.long ≡ d.pool.long
  pub fits : AllFit d → AllFit b.database

pub not_last : (other system : List ℕ) (names : List (List ℕ)) → list_any (bytes_eq other) (names ++ system ∷ []) ≡ false → (list_any (bytes_eq other) names ≡ false) × (bytes_eq other system ≡ false)
not_last other system [] e = (refl, (or_parts (bytes_eq other system) false e).0)
not_last other system (n ∷ ns) e =
    let g = or_parts (bytes_eq other n) (list_any (bytes_eq other) (ns ++ system ∷ [])) e in
    let h = not_last other system ns g.1 in
    (rw (g.0, h.0) refl, h.1)

pub last_named : (system : List ℕ) (names : List (List ℕ)) → is_table_name system ≡ true → list_all is_table_name names ≡ true → list_all is_table_name (names ++ system ∷ []) ≡ true
last_named system [] is h = and_from (is_table_name system) true is refl
last_named system (n ∷ ns) is h =
    let p = and_parts (is_table_name n) (list_all is_table_name ns) h in
    and_from (is_table_name n) (list_all is_table_name (ns ++ system ∷ [])) p.0 (last_named system ns is p.1)

-- a table that is stored anew
module _ (d : Database) (b : Change) (system : List ℕ) (columns : List ColumnDef) (rows : List (List ValueRef)) (pool : PoolInUse) (tracks : Tracks d b) (named : is_table_name system ≡ true)
    (step : PoolStep (pool_of b) pool) (fit : AllFit b.database → FitsTable b.database.pool.long (types_of columns) (in_stored_order columns rows)) where
  abbrev new : TableCells
  new = record { columns = columns; rows = Some (in_stored_order columns rows) }

  abbrev now : Change
  now = with_stored system columns rows pool b

  fits_now : AllFit b.database → AllFit now.database
  fits_now h name t e =
      let found = sym (find-put list_cmp nat_list_cmp_total name system new b.database.tables) ∙ e in
      by_test (eq_by_cmp list_cmp name system)
      (λ same. subst (TableFits b.database.pool.long) (same_Some new t (ap (λ x. cond x (Some new) (table_at name b.database)) (sym same) ∙ found)) (fit h))
      (λ other. h name t (ap (λ x. cond x (Some new) (table_at name b.database)) (sym other) ∙ found))

  pub tracks_stored : Tracks d now
  tracks_stored = record {
    others = λ other e. let g = not_last other system b.stored e in put_elsewhere system other new b.database (texts_flip system other ∙ g.1) ∙ tracks.others other g.0;
    names = last_named system b.stored named tracks.names;
    kept = λ h. step.kept (tracks.kept h);
    unused = λ e. let u = step.unused e in ap (λ (places : List Place). record b.database.pool { places = places }) u.0 ∙ tracks.unused u.1;
    long = tracks.long;
    fits = λ h. fits_now (tracks.fits h);
  }

-- fewer rows fit
pub fewer_fit : (columns : List ColumnDef) (long : Bool) (o : Option (List (List ValueRef))) (p : List ValueRef → Bool) → IsSomeAnd o (FitsTable long (types_of columns))
    → FitsTable long (types_of columns) (in_stored_order columns (filter p (unwrap_or o [])))
fewer_fit columns long None p f = absurd f
fewer_fit columns long (Some rows) p f = sorted_fits columns long (types_of columns) (filter p rows) (record {
  some_column = f.some_column;
  few_rows = omega (arith, length-filter-le p rows, f.few_rows);
  each_row = all_kept (FitsRow long (types_of columns)) p rows f.each_row;
})

module _ (takes : TakenPlacesHoldTheirText) (gives : GivenBackTakesOne) where
  -- rows about a table that are forgotten
  pub tracks_forgotten : (d : Database) (b : Change) (name : List ℕ) (places : List Place) (system : List ℕ) (o : Option TableCells) → table_at system b.database ≡ o → is_table_name system ≡ true → Tracks d b
      → Tracks d (rows_forgotten name places system b)
  tracks_forgotten d b name places system None is named tracks = rw is tracks
  tracks_forgotten d b name places system (Some t) is named tracks = rw is (tracks_stored d b system t.columns (filter (λ row. not (is_row_about places name row)) (rows_of t)) (rows_released (pool_of b) (filter (is_row_about places name) (rows_of t)))
      tracks named (rows_released_step takes gives (pool_of b) (filter (is_row_about places name) (rows_of t)))
      (λ h. fewer_fit t.columns b.database.pool.long t.rows (λ row. not (is_row_about places name row)) (h system t is)))

  -- a table that is taken out
  module _ (d : Database) (name : List ℕ) (t : TableCells) (found : table_at name d ≡ Some t) (named : is_table_name name ≡ true) (sound : is_sound d ≡ true) (well : WellFormed d) where
    abbrev b₀ : Change
    b₀ = table_released name t (no_change d)

    gone_or_there : (kept : Bool) (o : Option TableCells) (u : TableCells) → cond kept o None ≡ Some u → o ≡ Some u
    gone_or_there true o u e = e
    gone_or_there false o u e = absurd (none-some u e)

    pub tracks_released : Tracks d b₀
    tracks_released = record {
      others = λ other e. ((released_leaves takes gives (no_change d) name t found sound well).others other (texts_flip name other ∙ (not_last other name [] e).1)).at;
      names = and_from (is_table_name name) true named refl;
      kept = (rows_released_step takes gives (pool_of (no_change d)) (rows_of t)).kept;
      unused = λ e. ap (λ (places : List Place). record d.pool { places = places }) ((rows_released_step takes gives (pool_of (no_change d)) (rows_of t)).unused e).0;
      long = refl;
      fits = λ h other u e. h other u (gone_or_there (not (eq_by_cmp list_cmp name other)) (table_at other d) u (sym (found_now takes gives (no_change d) name t found sound well other) ∙ e));
    }
