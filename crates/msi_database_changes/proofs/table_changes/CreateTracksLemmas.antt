-- What a whole create keeps.
use Rattle.std.proofs.Common.{◌≡◌, ℕ, ◌+◌, ◌<◌, ◌≤◌, true, ◌&&◌, List, [], ◌∷◌, ◌++◌, length, None, nat_lt, nat_le, refl, subst, arith, lit≤}
use Rattle.std.proofs.lemmas.Bool.{and_parts, not-false}
use Rattle.std.proofs.lemmas.List.{length-map}
use Rattle.std.proofs.lemmas.Bool.Decides.{nat_tests}
use Rattle.msi_pool.specs.FirstFit.{most_places}
use Rattle.msi_pool.specs.FirstFitLaws.{TakenPlacesHoldTheirText, GivenBackTakesOne}
use Rattle.msi_base.specs.declared.errors.ErrorKind.TheVariants.{InvalidInput}
use Rattle.msi_table_values.specs.declared.value.Value.{Value}
use Rattle.msi_table_values.specs.declared.value.Value.TheVariants.{Str}
use Rattle.msi_table_values.specs.Columns.{ColumnDef}
use Rattle.msi_base.specs.Refusals.{first_refusal}
use Rattle.msi_database_schema.specs.Keys.{is_table_name}
use Rattle.msi_table_cells.specs.KeyOrder.{in_key_order}
use Rattle.msi_database_schema.specs.System.{columns_name, tables_name, validation_name}
use Rattle.msi_database_changes.specs.Database.{Database, rows_of, is_sound}
use Rattle.msi_table_cells.specs.TableCells.{TableCells}
use Rattle.msi_database_changes.specs.Changes.{Change, no_change, pool_of}
use Rattle.msi_database_changes.specs.Insert.{row_refusals}
use Rattle.msi_database_changes.specs.Create.{table_refusals}
use Rattle.msi_database_schema.specs.Description.{column_rows, validation_rows}
use Rattle.msi_database_changes.proofs.steps.RefusedLemmas.{first_fails, front_fails, none_holds}
use Rattle.msi_database_changes.proofs.steps.StoredLemmas.{WellFormed, sound_parts}
use Rattle.msi_database_changes.proofs.row_changes.InsertedLemmas.{Inserted, inserted_parts, rows_fit, row_faults, key_faults, length_faults}
use Rattle.msi_database_changes.proofs.describing.ShownTablesLemmas.{Created}
use Rattle.msi_database_changes.proofs.text_counts.PoolStepLemmas.{no_step, rows_put_step}
use Rattle.msi_database_changes.proofs.soundness.PutFitsLemmas.{CellOf, Both, as_many, joined_fit, rows_all_fit, rows_put_of}
use Rattle.msi_database_changes.proofs.steps.TracksLemmas.{Tracks, tracks_stored}
use Rattle.msi_database_changes.proofs.table_changes.CreateRowsLemmas.{first_step, second_step, is_sound_created}

pub few_rows : (d : Database) (values : List (List Value)) (t : TableCells) → first_refusal (row_refusals d.pool.places t values) ≡ None → length (rows_of t) + length values ≤ 65536
few_rows d values t e =
    let few = (first_fails (nat_lt 65536 (length (rows_of t) + length values)) InvalidInput [] (front_fails (row_faults values t ++ key_faults d values t) (length_faults values t) e).1).0 in
    grind (arith, nat_tests, few)

pub tracked_from : (d : Database) → Tracks d (no_change d)
tracked_from d = record { others = λ other e. refl; names = refl; kept = λ h. h; unused = λ e. refl; long = refl; fits = λ h. h }

module _ (takes : TakenPlacesHoldTheirText) (gives : GivenBackTakesOne) where
  -- rows that are inserted
  pub tracks_inserted : (d : Database) (b : Change) (system : List ℕ) (values : List (List Value)) (c : Change) → Inserted b system values c → is_table_name system ≡ true → is_sound b.database ≡ true → Tracks d b → Tracks d c
  tracks_inserted d b system values c s named sound tracks =
      let long = b.database.pool.long in
      let columns = s.table.columns in
      let width : length b.database.pool.places ≤ most_places long = let w = (sound_parts b.database sound).width in grind (arith, nat_tests, w) in
      let of : Both (Both (CellOf long)) values s.put.0 = rows_put_of takes long (pool_of b) values s.put width s.put_is in
      subst (Tracks d) s.stored (tracks_stored d b system columns (in_key_order columns s.put.1.places (rows_of s.table ++ s.put.0)) s.put.1 tracks named
      (rows_put_step takes gives long (pool_of b) values s.put s.put_is)
      (λ h. joined_fit columns long s.put.1.places s.table.rows s.put.0 (h system s.table s.found)
      (let n = as_many (Both (CellOf long)) values s.put.0 of in let few = few_rows b.database values s.table s.passed in omega (arith, n, few))
      (rows_all_fit long columns values s.put.0 (rows_fit b.database values s.table s.passed) of)))

  module _ (d : Database) (name : List ℕ) (columns : List ColumnDef) (c : Change) (well : WellFormed d) (r : Created d name columns c) where
    some_column : 0 < length columns
    some_column =
        let fails = none_holds (table_refusals d name columns) r.accepted in
        let one = (and_parts (nat_le 1 (length columns)) (nat_le (length columns) 32) (not-false (nat_le 1 (length columns) && nat_le (length columns) 32) (fails.1.0))).0 in
        grind (arith, nat_tests, one)

    pub create_tracks : is_table_name columns_name ≡ true → is_table_name tables_name ≡ true → is_table_name validation_name ≡ true → Tracks d c
    create_tracks c_named t_named v_named =
        let i₁ = inserted_parts (no_change d) columns_name (column_rows name columns) r.first r.in_columns in
        let t₁ = tracks_inserted d (no_change d) columns_name (column_rows name columns) r.first i₁ c_named (is_sound_created d name columns c r) (tracked_from d) in
        let i₂ = inserted_parts r.first tables_name ((Str name ∷ []) ∷ []) r.second r.in_tables in
        let t₂ = tracks_inserted d r.first tables_name ((Str name ∷ []) ∷ []) r.second i₂ t_named (first_step takes gives d name columns c well r).sound t₁ in
        let i₃ = inserted_parts r.second validation_name (validation_rows name columns) r.third r.in_validation in
        let t₃ = tracks_inserted d r.second validation_name (validation_rows name columns) r.third i₃ v_named (second_step takes gives d name columns c well r).sound t₂ in
        let named : is_table_name name ≡ true = not-false (is_table_name name) (none_holds (table_refusals d name columns) r.accepted).0 in
        subst (Tracks d) r.last (tracks_stored d r.third name columns [] (pool_of r.third) t₃ named (no_step (pool_of r.third))
        (λ h. record { some_column = rw length-map some_column; few_rows = lit≤ tt; each_row = tt }))
