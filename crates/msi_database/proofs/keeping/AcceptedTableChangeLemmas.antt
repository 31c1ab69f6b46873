-- An accepted create or drop brings what a change must.
use Rattle.std.proofs.Common.{◌≡◌, ℕ, List, Some, Ok, sym, ◌∙◌}
use Rattle.std.proofs.lemmas.Bool.{true≢false}
use Rattle.msi_base.proofs.OptionLemmas.{none_there}
use Rattle.msi_pool.proofs.TakenLemmas.{taken_takes}
use Rattle.msi_table_values.specs.Columns.{ColumnDef}
use Rattle.msi_database_schema.specs.System.{validation_name}
use Rattle.msi_database_schema.specs.Schema.{schema_of}
use Rattle.msi_database_schema.proofs.OrderlessLemmas.{HasKinds}
use Rattle.msi_database_changes.specs.Database.{Database, table_at}
use Rattle.msi_database_changes.specs.Changes.{Change}
use Rattle.msi_database_changes.specs.Create.{create_at_width}
use Rattle.msi_database_changes.specs.Drop.{drop_table}
use Rattle.msi_database_changes.specs.AddColumn.{add_column_at_width}
use Rattle.msi_database_changes.proofs.steps.AtWidthLemmas.{IsTableChangeAtWidth, created, dropped, column_added}
use Rattle.msi_database_changes.proofs.describing.ShownTablesLemmas.{shown}
use Rattle.msi_database_changes.proofs.describing.ShownTablesLemmas as steps
use Rattle.msi_database_changes.proofs.soundness.LawLemmas.{create_table_keeps, drop_table_keeps}
use Rattle.msi_database_changes.proofs.describing.DescribingLemmas.{describing}
use Rattle.msi_database_changes.proofs.table_changes.CreatedLemmas.{validated, validated_now}
use Rattle.msi_database_changes.proofs.table_changes.CreateRowsLemmas.{first_step, second_step, third_step, create_unlisted, create_describes}
use Rattle.msi_database_changes.proofs.table_changes.CreateTracksLemmas.{create_tracks}
use Rattle.msi_database_changes.proofs.describing.ShownChangesLemmas.{dropped_parts}
use Rattle.msi_database_changes.proofs.describing.ChangedDescriptionLemmas.{same_validation}
use Rattle.msi_database_changes.proofs.table_changes.DropRowsLemmas.{drop_rows, drop_describes}
use Rattle.msi_database_changes.proofs.table_changes.DropTracksLemmas.{drop_tracks, drop_unstored}
use Rattle.msi_database_changes.proofs.soundness.RegularLemmas.{IsRegular}
use Rattle.msi_database_changes.proofs.table_changes.ColumnAddedLemmas.{accepted, column_keeps, column_parts, column_tracks, column_unlisted}
use Rattle.msi_database_changes.proofs.table_changes.ColumnDescribedLemmas as described
use Rattle.msi_database_schema.proofs.KeyLemmas.{tables_accepted, columns_accepted, validation_accepted}
use Rattle.msi_database.proofs.soundness.GivenBackLemmas.{given_back_gives}
use Rattle.msi_database.proofs.keeping.AcceptedChangeLemmas.{Comes}

module _ (d : Database) (regular : IsRegular d) (before : schema_of (describing d) ≡ Some (shown d)) (kinds : HasKinds (describing d)) where
  module _ (name : List ℕ) (columns : List ColumnDef) (c : Change) (e : create_at_width d name columns ≡ Ok c) where
    pub create_comes : Comes d c
    create_comes =
        let r = steps.created d name columns c e in
        let keeps = create_table_keeps taken_takes given_back_gives d name columns c regular.well e in
        let a1 = (first_step taken_takes given_back_gives d name columns c regular.well r).adds in
        let a2 = (second_step taken_takes given_back_gives d name columns c regular.well r).adds in
        let a3 = (third_step taken_takes given_back_gives d name columns c regular.well r).adds in
        let was = validated d name columns c r before kinds a1 a2 a3 in record {
          tracks = create_tracks taken_takes given_back_gives d name columns c regular.well r columns_accepted tables_accepted validation_accepted;
          sound = keeps.sound;
          well = keeps.well;
          schema = (create_describes taken_takes given_back_gives d name columns c regular.well r before kinds).0;
          unlisted = (create_unlisted taken_takes given_back_gives d name columns c regular.well r).same;
          listed = validated_now d name columns c r before kinds a1 a2 a3 ∙ sym was;
          unstored = λ none. absurd (true≢false (sym was ∙ none));
        }

  module _ (name : List ℕ) (c : Change) (e : drop_table d name ≡ Ok c) where
    pub drop_comes : Comes d c
    drop_comes =
        let p = dropped_parts d name c e in
        let keeps = drop_table_keeps taken_takes given_back_gives d name c regular.well e in
        let rows = drop_rows taken_takes given_back_gives d name c regular.well p in record {
          tracks = drop_tracks taken_takes given_back_gives d name c regular.well p validation_accepted columns_accepted tables_accepted;
          sound = keeps.sound;
          well = keeps.well;
          schema = (drop_describes taken_takes given_back_gives d name c regular.well p before kinds).0;
          unlisted = rows.unlisted.same;
          listed = same_validation d name c p before kinds rows.tables rows.columns;
          unstored = λ none. drop_unstored taken_takes given_back_gives d name c regular.well p (none_there (table_at validation_name d) none);
        }

  module _ (name : List ℕ) (column : ColumnDef) (c : Change) (e : add_column_at_width d name column ≡ Ok c) where
    pub column_comes : Comes d c
    column_comes =
        let r = column_parts d name column c e in
        let keeps = column_keeps taken_takes given_back_gives d name column c regular.well r in
        let was = (accepted taken_takes given_back_gives d name column c regular.well r).validated in record {
          tracks = column_tracks taken_takes given_back_gives d name column c regular.well r columns_accepted validation_accepted;
          sound = keeps.sound;
          well = keeps.well;
          schema = described.column_describes taken_takes given_back_gives d name column c regular.well r before kinds;
          unlisted = (column_unlisted taken_takes given_back_gives d name column c regular.well r).same;
          listed = described.validated_now taken_takes given_back_gives d name column c regular.well r before kinds ∙ sym was;
          unstored = λ none. absurd (true≢false (sym was ∙ none));
        }

  -- so does each change of tables
  pub tables_come : (c : Change) → IsTableChangeAtWidth d c → Comes d c
  tables_come c (created name columns e) = create_comes name columns c e
  tables_come c (dropped name e) = drop_comes name c e
  tables_come c (column_added name column e) = column_comes name column c e
