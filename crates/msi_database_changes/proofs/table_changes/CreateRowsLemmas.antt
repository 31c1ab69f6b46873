-- The three steps of a create each add their rows, and the other tables keep their own.
use Rattle.std.proofs.Common.{◌≡◌, ℕ, true, not, List, [], ◌∷◌, Some, subst}
use Rattle.std.proofs.lemmas.Bool.{not-false}
use Rattle.msi_base.specs.declared.errors.ErrorKind.TheVariants.{InvalidData}
use Rattle.msi_pool.specs.FirstFitLaws.{TakenPlacesHoldTheirText, GivenBackTakesOne}
use Rattle.msi_table_values.specs.declared.value.Value.{Value}
use Rattle.msi_table_values.specs.declared.value.Value.TheVariants.{Str}
use Rattle.msi_table_values.specs.Columns.{ColumnDef}
use Rattle.msi_database_schema.specs.System.{columns_name, tables_name, validation_name}
use Rattle.msi_database_changes.specs.Database.{Database, is_sound}
use Rattle.msi_database_changes.specs.Changes.{Change, no_change}
use Rattle.msi_database_schema.specs.Description.{column_rows, validation_rows}
use Rattle.msi_database_schema.specs.Schema.{schema_of}
use Rattle.msi_database_changes.proofs.steps.RefusedLemmas.{first_fails}
use Rattle.msi_database_changes.proofs.steps.StoredLemmas.{WellFormed}
use Rattle.msi_database_changes.proofs.row_changes.InsertedLemmas.{Inserted, inserted_parts, inserted_sound, inserted_well, inserted_adds, inserted_moved, rows_now}
use Rattle.msi_database_changes.proofs.describing.ShownTablesLemmas.{Created, shown}
use Rattle.msi_database_changes.proofs.describing.DescribingLemmas.{AddsRows, describing}
use Rattle.msi_database_schema.proofs.OrderlessLemmas.{HasKinds}
use Rattle.msi_database_changes.proofs.table_changes.CreatedLemmas.{describes_created, kinds_created}
use Rattle.msi_database_changes.proofs.steps.UntouchedTableLemmas.{Leaves, LeavesUnlisted, stored_leaves, unlisted_by, unlisted_on}

-- what a step adds and leaves
pub record StepsOn (system : List ℕ) (values : List (List Value)) (b c : Change) : Type 0 where
  pub sound : is_sound c.database ≡ true
  pub well : WellFormed c.database
  pub adds : AddsRows system values b.database c.database
  pub leaves : Leaves system b.database c.database

pub is_sound_created : (d : Database) (name : List ℕ) (columns : List ColumnDef) (c : Change) → Created d name columns c → is_sound d ≡ true
is_sound_created d name columns c r = not-false (is_sound d) (first_fails (not (is_sound d)) InvalidData [] r.sound).0

module _ (takes : TakenPlacesHoldTheirText) (gives : GivenBackTakesOne) where
  pub steps_on : (b : Change) (system : List ℕ) (values : List (List Value)) (c : Change) → is_sound b.database ≡ true → WellFormed b.database → Inserted b system values c → StepsOn system values b c
  steps_on b system values c sound well s =
      let adds = inserted_adds takes gives b system values c sound well s in record {
        sound = inserted_sound takes gives b system values c sound well s;
        well = inserted_well takes gives b system values c sound well s;
        adds = record { own = adds.0; others = adds.1 };
        leaves = subst (λ (c : Change). Leaves system b.database c.database) s.stored
            (stored_leaves b.database system s.table s.found well.in_order (rows_now takes gives b system values c sound well s) s.put.1.places (inserted_moved takes gives b system values c sound well s).texts);
      }

  module _ (d : Database) (name : List ℕ) (columns : List ColumnDef) (c : Change) (well : WellFormed d) (r : Created d name columns c) where
    pub first_step : StepsOn columns_name (column_rows name columns) (no_change d) r.first
    first_step = steps_on (no_change d) columns_name (column_rows name columns) r.first (is_sound_created d name columns c r) well
        (inserted_parts (no_change d) columns_name (column_rows name columns) r.first r.in_columns)

    pub second_step : StepsOn tables_name ((Str name ∷ []) ∷ []) r.first r.second
    second_step = steps_on r.first tables_name ((Str name ∷ []) ∷ []) r.second first_step.sound first_step.well (inserted_parts r.first tables_name ((Str name ∷ []) ∷ []) r.second r.in_tables)

    pub third_step : StepsOn validation_name (validation_rows name columns) r.second r.third
    third_step = steps_on r.second validation_name (validation_rows name columns) r.third second_step.sound second_step.well (inserted_parts r.second validation_name (validation_rows name columns) r.third r.in_validation)

    -- the rows of an unlisted `_Validation` stay
    pub create_unlisted : LeavesUnlisted d c.database
    create_unlisted =
        let u = unlisted_on d r.second.database r.third.database (unlisted_on d r.first.database r.second.database (unlisted_by columns_name _ _ first_step.leaves)
        (unlisted_by tables_name _ _ second_step.leaves)) (unlisted_by validation_name _ _ third_step.leaves) in
        subst (λ (c : Change). LeavesUnlisted d c.database) r.last (record { same = u.same; texts = u.texts })

    -- so the rows describe the tables and the new one
    pub create_describes : schema_of (describing d) ≡ Some (shown d) → HasKinds (describing d) → (schema_of (describing c.database) ≡ Some (shown c.database)) × HasKinds (describing c.database)
    create_describes before kinds = (
      describes_created d name columns c r before kinds first_step.adds second_step.adds third_step.adds,
      kinds_created d name columns c r before kinds first_step.adds second_step.adds third_step.adds,
    )
