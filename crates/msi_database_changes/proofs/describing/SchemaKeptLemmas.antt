-- The rows of a database describe its tables, also after one was created or dropped.
use Rattle.std.proofs.Common.{◌≡◌, ℕ, Bool, true, List, [], ◌∷◌, map, Option, Some, None, Ok, ◌++◌, is_some, option_map, refl, sym, ap, subst, ◌∙◌}
use Rattle.std.specs.Prelude.{IsSomeAnd, unwrap_or}
use Rattle.std.specs.List.{AllByRecursion}
use Rattle.msi_base.proofs.OptionLemmas.{map_some}
use Rattle.msi_pool.specs.FirstFitLaws.{TakenPlacesHoldTheirText, GivenBackTakesOne}
use Rattle.msi_base.specs.Refusals.{first_refusal}
use Rattle.msi_table_values.specs.declared.column.ColumnType.{ColumnType}
use Rattle.msi_table_cells.specs.declared.cell.ValueRef.{ValueRef}
use Rattle.msi_table_values.specs.Columns.{ColumnDef, types_of}
use Rattle.msi_table_cells.specs.Fitting.{FitsRow, FitsTable}
use Rattle.msi_table_cells.specs.CellValues.{row_values}
use Rattle.msi_table_cells.specs.TableCells.{TableCells}
use Rattle.msi_database_schema.specs.Schema.{SchemaRows, schema_of}
use Rattle.msi_database_schema.specs.System.{columns_name, columns_columns, validation_name, validation_columns}
use Rattle.msi_database_schema.proofs.OrderlessLemmas.{HasKinds}
use Rattle.msi_database_schema.proofs.SchemaLemmas.{NoFault, describes_from, table_of}
use Rattle.msi_database_changes.specs.Database.{Database, table_at, rows_of, are_alike, columns_by_name, is_well_formed}
use Rattle.msi_database_changes.specs.Changes.{Change, sound_refusal}
use Rattle.msi_database_changes.specs.Create.{create_at_width}
use Rattle.msi_database_changes.specs.AddColumn.{add_column_at_width}
use Rattle.msi_database_changes.specs.Widening.{widened}
use Rattle.msi_database_changes.specs.Laws.{AddedColumnsAreDescribed, describing, RowsFit, TablesAreDescribed, CreatedTablesAreDescribed, DroppedTablesAreForgotten}
use Rattle.std.specs.FinMap.{put}
use Rattle.msi_base.specs.Lists.{list_cmp}
use Rattle.msi_database_changes.proofs.steps.AtWidthLemmas.{fits_widened, widening_made}
use Rattle.msi_database_changes.proofs.describing.KindsLemmas.{fits_alike, kinds_from_cells}
use Rattle.msi_database_changes.proofs.describing.ShownTablesLemmas.{created, find_shown, shown, shown_created}
use Rattle.msi_database_changes.proofs.describing.ShownChangesLemmas.{dropped_parts, shown_dropped}
use Rattle.msi_database_changes.proofs.describing.DescribingLemmas.{alike_shown, rows_at_is, standard, validation_at}
use Rattle.msi_database_changes.proofs.table_changes.CreateRowsLemmas.{create_describes}
use Rattle.msi_database_changes.proofs.table_changes.DropRowsLemmas.{drop_describes}
use Rattle.msi_database_changes.proofs.table_changes.ColumnAddedLemmas.{accepted, column_parts}
use Rattle.msi_database_changes.proofs.table_changes.ColumnDescribedLemmas.{column_describes, shown_now}
use Rattle.std.proofs.lemmas.Option.{same_Some}
use Rattle.msi_database_changes.proofs.soundness.LawLemmas.{well_formed_from}
use Rattle.msi_database_changes.proofs.describing.ChangedDescriptionLemmas.{unlisted_at}

pub each_row : (long : Bool) (types : List ColumnType) (o : Option (List (List ValueRef))) → IsSomeAnd o (FitsTable long types) → AllByRecursion (FitsRow long types) (unwrap_or o [])
each_row long types None f = absurd f
each_row long types (Some rows) f = f.each_row

pub rows_alike : (long : Bool) (columns others : List ColumnDef) (rows : List (List ValueRef)) → are_alike columns others ≡ true → AllByRecursion (FitsRow long (types_of columns)) rows → AllByRecursion (FitsRow long (types_of others)) rows
rows_alike long columns others [] e f = tt
rows_alike long columns others (r ∷ rs) e f = (fits_alike long columns others r e f.0, rows_alike long columns others rs e f.1)

-- the cells of the rows about columns
pub record Cells (d : Database) : Type 0 where
  pub columns : List (List ValueRef)
  pub columns_are : (describing d).columns ≡ map (row_values d.pool.places) columns
  pub columns_fit : AllByRecursion (FitsRow d.pool.long (types_of columns_columns)) columns
  pub validation : List (List ValueRef)
  pub validation_are : (describing d).validation ≡ map (row_values d.pool.places) validation
  pub validation_fit : AllByRecursion (FitsRow d.pool.long (types_of validation_columns)) validation

pub kinds_by : (d : Database) → Cells d → NoFault (describing d) → HasKinds (describing d)
kinds_by d cells sound =
    let same : describing d ≡ record { tables = (describing d).tables; columns = map (row_values d.pool.places) cells.columns; validation = map (row_values d.pool.places) cells.validation } =
    λ i. record { tables = (describing d).tables; columns = cells.columns_are i; validation = cells.validation_are i } in
    subst HasKinds (sym same) (kinds_from_cells (describing d).tables d.pool.long d.pool.places cells.columns cells.validation cells.columns_fit cells.validation_fit (subst NoFault same sound))

-- a table that a schema shows
pub shown_table : (d : Database) (s : SchemaRows) → schema_of s ≡ Some (shown d) → (name : List ℕ) (columns : List ColumnDef) → table_of s name ≡ Some columns
    → (t : TableCells) × (table_at name d ≡ Some t) × (t.columns ≡ columns)
shown_table d s e name columns is = map_some (table_at name d) (λ (t : TableCells). t.columns) columns (sym (find_shown name d.tables) ∙ (describes_from s (shown d) e).found name ∙ is)

module _ (d : Database) (fit : RowsFit d) (schema : TablesAreDescribed d) (sound : first_refusal (sound_refusal d) ≡ None) where
  columns_there : (t : TableCells) × (table_at columns_name d ≡ Some t) × (t.columns ≡ columns_columns)
  columns_there = shown_table d (describing d) schema columns_name columns_columns refl

  alike_there : (v : TableCells) → table_at validation_name d ≡ Some v → are_alike v.columns validation_columns ≡ true
  alike_there v e = alike_shown d v.columns (standard d sound) (find_shown validation_name d.tables ∙ ap (option_map (λ t. t.columns)) e)

  columns_fit_there : AllByRecursion (FitsRow d.pool.long (types_of columns_columns)) (rows_of columns_there.0)
  columns_fit_there = subst (λ (columns : List ColumnDef). AllByRecursion (FitsRow d.pool.long (types_of columns)) (rows_of columns_there.0)) columns_there.2
      (each_row d.pool.long (types_of columns_there.0.columns) columns_there.0.rows (fit.tables columns_name columns_there.0 columns_there.1))

  cells_by : (o : Option TableCells) → table_at validation_name d ≡ o → Cells d
  cells_by (Some v) e = record {
    columns = rows_of columns_there.0;
    columns_are = rows_at_is columns_name d columns_there.0 columns_there.1;
    columns_fit = columns_fit_there;
    validation = rows_of v;
    validation_are = validation_at d (ap is_some e) ∙ rows_at_is validation_name d v e;
    validation_fit = rows_alike d.pool.long v.columns validation_columns (rows_of v) (alike_there v e) (each_row d.pool.long (types_of v.columns) v.rows (fit.tables validation_name v e));
  }
  cells_by None e = record {
    columns = rows_of columns_there.0;
    columns_are = rows_at_is columns_name d columns_there.0 columns_there.1;
    columns_fit = columns_fit_there;
    validation = d.unlisted_validation;
    validation_are = unlisted_at d (ap is_some e);
    validation_fit = fit.unlisted;
  }

  -- the rows that describe tables have the kinds of their columns
  kinds_there : HasKinds (describing d)
  kinds_there = kinds_by d (cells_by (table_at validation_name d) refl) (describes_from (describing d) (shown d) schema).sound

module _ (takes : TakenPlacesHoldTheirText) (gives : GivenBackTakesOne) where
  created_described_at : (d : Database) (name : List ℕ) (columns : List ColumnDef) (c : Change) → is_well_formed d ≡ true → RowsFit d → TablesAreDescribed d → create_at_width d name columns ≡ Ok c
      → schema_of (describing c.database) ≡ Some (put list_cmp name columns (columns_by_name d))
  created_described_at d name columns c formed fit before e =
      let p = created d name columns c e in
      let kinds = kinds_there d fit before p.sound in
      (create_describes takes gives d name columns c (well_formed_from d formed) p before kinds).0
      ∙ ap Some (shown_created d name columns c (describes_from (describing d) (shown d) before).in_order e)

  pub created_described : CreatedTablesAreDescribed
  created_described d name columns c formed fit before e = widening_made (λ d. create_at_width d name columns) d c e
      (λ sound short is. created_described_at (widened d) name columns c formed (fits_widened d fit) before is)
      (λ is. created_described_at d name columns c formed fit before is)

  pub dropped_forgotten : DroppedTablesAreForgotten
  dropped_forgotten d name c formed fit before e =
      let p = dropped_parts d name c e in
      let kinds = kinds_there d fit before p.sound in
      (drop_describes takes gives d name c (well_formed_from d formed) p before kinds).0
      ∙ ap Some (shown_dropped d name c (describes_from (describing d) (shown d) before).in_order e)

  added_described_at : (d : Database) (name : List ℕ) (column : ColumnDef) (t : TableCells) (c : Change) → is_well_formed d ≡ true → RowsFit d → TablesAreDescribed d → table_at name d ≡ Some t
      → add_column_at_width d name column ≡ Ok c → schema_of (describing c.database) ≡ Some (put list_cmp name (t.columns ++ column ∷ []) (columns_by_name d))
  added_described_at d name column t c formed fit before at e =
      let well = well_formed_from d formed in
      let p = column_parts d name column c e in
      let sound = (accepted takes gives d name column c well p).sound in
      let kinds = kinds_there d fit before (rw sound refl) in
      let same : p.table ≡ t = same_Some p.table t (sym p.at ∙ at) in
      column_describes takes gives d name column c well p before kinds
      ∙ ap Some (shown_now takes gives d name column c well p before kinds ∙ ap (λ (u : TableCells). put list_cmp name (u.columns ++ column ∷ []) (columns_by_name d)) same)

  pub added_described : AddedColumnsAreDescribed
  added_described d name column t c formed fit before at e = widening_made (λ d. add_column_at_width d name column) d c e
      (λ sound short is. added_described_at (widened d) name column t c formed (fits_widened d fit) before at is)
      (λ is. added_described_at d name column t c formed fit before at is)
