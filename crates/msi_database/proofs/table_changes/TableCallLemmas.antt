-- What an accepted create and an accepted drop make, by what they have in hand at their ends.
use Rattle.std.proofs.Common.{◌≡◌, ℕ, true, false, not, List, [], ◌∷◌, ◌++◌, filter, Some, None, Ok, Result, sym, subst, ◌∙◌}
use Rattle.msi_base.specs.declared.errors.ErrorKind.{ErrorKind}
use Rattle.msi_pool.specs.Pool.{Pool}
use Rattle.msi_table_cells.specs.declared.cell.ValueRef.{ValueRef}
use Rattle.msi_table_values.specs.Columns.{ColumnDef}
use Rattle.msi_table.specs.Tables.{TableDef}
use Rattle.msi_base.specs.Refusals.{first_refusal}
use Rattle.msi_table_cells.specs.TableCells.{TableCells}
use Rattle.msi_database_schema.specs.Keys.{is_table_name, table_key}
use Rattle.msi_database_schema.specs.System.{is_system_table, tables_name, columns_name, validation_name}
use Rattle.msi_database_changes.specs.Database.{Database, is_sound, table_at, rows_of}
use Rattle.msi_database_changes.specs.Changes.{Change, no_change, pool_of, sound_refusal}
use Rattle.msi_database_changes.specs.Texts.{PoolInUse, rows_released}
use Rattle.msi_database_changes.specs.Insert.{cells_added, row_refusals}
use Rattle.msi_database_changes.specs.Create.{create_at_width, table_refusals, with_new_table}
use Rattle.msi_database_changes.specs.Drop.{drop_table, is_row_about}
use Rattle.msi_database_changes.specs.declared.storing.Stored.{Stored}
use Rattle.msi_database_storage.specs.Streams.{Streams, stream_of_rows}
use Rattle.msi_database_storage.specs.Storing.{tables_stored}
use Rattle.msi_database_storage.specs.Kept.{Kept, kept_of, database_kept, with_table_kept, without_table_kept}
use Rattle.msi_database.specs.Keeping.{AreKept}
use Rattle.msi_database.proofs.widths.TablesAtBothWidthsLemmas.{MakesAt}
use Rattle.msi_database.proofs.keeping.AcceptedChangeLemmas.{describes}
use Rattle.msi_database.proofs.keeping.OwnNamesLemmas.{created_apart}
use Rattle.msi_database_storage.proofs.EditLemmas.{created_stored, dropped_stored, dropped_unvalidated}
use Rattle.msi_database.proofs.table_changes.TableChangeStepsLemmas.{create_by_steps, third, c_rows, t_rows, v_rows, drop_by_steps, drop_by_two_steps, drop_passes, dropped_apart}
use Rattle.msi_database.proofs.calls.FinishedChangeLemmas.{known_sound, create_kept, drop_kept}

-- what is made of an answer is made of the call that gives it
makes_by : (old : Kept) (r s : Result Change ErrorKind) (pool : Pool) (tables : List TableDef) (es : List Stored) → r ≡ s → MakesAt old s pool tables es → MakesAt old r pool tables es
makes_by old r s pool tables es e h = subst (λ (r : Result Change ErrorKind). MakesAt old r pool tables es) (sym e) h

module _ (pool : Pool) (tables : List TableDef) (streams : Streams) (kept : AreKept pool tables streams true) where
  abbrev old : Kept
  old = kept_of pool tables streams

  abbrev d : Database
  d = database_kept pool tables streams

  sound : is_sound d ≡ true
  sound = known_sound pool tables streams kept

  -- A CREATE

  module _ (name : List ℕ) (columns : List ColumnDef) (c t v : TableCells) (c_at : table_at columns_name d ≡ Some c) (t_at : table_at tables_name d ≡ Some t) (v_at : table_at validation_name d ≡ Some v)
      (one two three : List (List ValueRef) × PoolInUse) where
    pub create_makes : first_refusal (sound_refusal d ++ table_refusals d name columns) ≡ None
        → first_refusal (row_refusals pool.places c (c_rows d name columns c t v c_at t_at v_at)) ≡ None
        → cells_added pool.long c.columns (pool_of (no_change d)) (rows_of c) (c_rows d name columns c t v c_at t_at v_at) ≡ Some one
        → first_refusal (row_refusals one.1.places t (t_rows d name columns c t v c_at t_at v_at)) ≡ None
        → cells_added pool.long t.columns one.1 (rows_of t) (t_rows d name columns c t v c_at t_at v_at) ≡ Some two
        → first_refusal (row_refusals two.1.places v (v_rows d name columns c t v c_at t_at v_at)) ≡ None
        → cells_added pool.long v.columns two.1 (rows_of v) (v_rows d name columns c t v c_at t_at v_at) ≡ Some three
        → (new : Pool) (es : List Stored) → new ≡ record pool { places = three.1.places }
        → es ≡ record { name = table_key columns_name; bytes = stream_of_rows pool.long c.columns one.0 }
        ∷ record { name = table_key tables_name; bytes = stream_of_rows pool.long t.columns two.0 }
        ∷ record { name = table_key validation_name; bytes = stream_of_rows pool.long v.columns three.0 }
        ∷ record { name = table_key name; bytes = None } ∷ []
        → MakesAt old (create_at_width d name columns) new (with_table_kept (record { name = name; columns = columns; long = pool.long }) tables) es
    create_makes passed p₁ e₁ p₂ e₂ p₃ e₃ new es new_is es_is =
        let last = with_new_table name columns (third d name columns c t v c_at t_at v_at one two three) in
        let made : create_at_width d name columns ≡ Ok last = create_by_steps d name columns c t v c_at t_at v_at one two three passed p₁ e₁ p₂ e₂ p₃ e₃ in
        let apart = created_apart d (describes old kept.kept sound) name columns last made in
        let edits : es ≡ tables_stored last.database last.stored = es_is ∙ sym (created_stored d name columns c.columns t.columns v.columns one.0 two.0 three.0 one.1 two.1 three.1 apart) in
        makes_by old (create_at_width d name columns) (Ok last) new (with_table_kept (record { name = name; columns = columns; long = pool.long }) tables) es made
        (create_kept pool tables streams kept name columns last made new es new_is edits, sound)

  -- A DROP

  module _ (name : List ℕ) (gone c t : TableCells) (free : is_system_table name ≡ false) (named : is_table_name name ≡ true) (at : table_at name d ≡ Some gone)
      (c_at : table_at columns_name d ≡ Some c) (t_at : table_at tables_name d ≡ Some t) where
    abbrev stay : TableCells → List (List ValueRef)
    stay s = filter (λ row. not (is_row_about pool.places name row)) (rows_of s)

    abbrev released : PoolInUse → TableCells → PoolInUse
    released used s = rows_released used (filter (is_row_about pool.places name) (rows_of s))

    abbrev began : PoolInUse
    began = rows_released (pool_of (no_change d)) (rows_of gone)

    pub drop_makes : (v : TableCells) → table_at validation_name d ≡ Some v → (new : Pool) (es : List Stored)
        → new ≡ record pool { places = (released (released (released began v) c) t).places }
        → es ≡ record { name = table_key name; bytes = None }
        ∷ record { name = table_key validation_name; bytes = stream_of_rows pool.long v.columns (stay v) }
        ∷ record { name = table_key columns_name; bytes = stream_of_rows pool.long c.columns (stay c) }
        ∷ record { name = table_key tables_name; bytes = stream_of_rows pool.long t.columns (stay t) } ∷ []
        → MakesAt old (drop_table d name) new (without_table_kept name tables) es
    drop_makes v v_at new es new_is es_is =
        let passed = drop_passes d name sound free named in
        let apart = dropped_apart d name gone c t passed free at c_at t_at in
        let made = drop_by_steps d name gone c t passed free at c_at t_at v v_at in
        makes_by old (drop_table d name) (Ok _) new (without_table_kept name tables) es made (
          drop_kept pool tables streams kept name _ made new es new_is
              (es_is ∙ sym (dropped_stored d name gone c.columns t.columns v.columns (stay c) (stay t) (stay v) (released (released began v) c) (released (released (released began v) c) t) (released began v) apart.0 apart.1 apart.2)),
          sound,
        )

    pub drop_makes_unvalidated : table_at validation_name d ≡ None → (new : Pool) (es : List Stored)
        → new ≡ record pool { places = (released (released began c) t).places }
        → es ≡ record { name = table_key name; bytes = None }
        ∷ record { name = table_key columns_name; bytes = stream_of_rows pool.long c.columns (stay c) }
        ∷ record { name = table_key tables_name; bytes = stream_of_rows pool.long t.columns (stay t) } ∷ []
        → MakesAt old (drop_table d name) new (without_table_kept name tables) es
    drop_makes_unvalidated v_none new es new_is es_is =
        let passed = drop_passes d name sound free named in
        let apart = dropped_apart d name gone c t passed free at c_at t_at in
        let made = drop_by_two_steps d name gone c t passed free at c_at t_at v_none in
        makes_by old (drop_table d name) (Ok _) new (without_table_kept name tables) es made (
          drop_kept pool tables streams kept name _ made new es new_is
              (es_is ∙ sym (dropped_unvalidated d name gone c.columns t.columns [] (stay c) (stay t) [] (released began c) (released (released began c) t) began apart.0 apart.1 apart.2)),
          sound,
        )
