-- Where each cell fits its column, the rows about tables have the kinds that tell them apart.
use Rattle.std.proofs.Common.{◌≡◌, List, Option, Some, None, is_some, refl, ap, subst, ◌∙◌}
use Rattle.std.specs.List.{AllByRecursion}
use Rattle.msi_table_values.specs.Columns.{ColumnDef, types_of}
use Rattle.msi_table_cells.specs.Fitting.{FitsRow}
use Rattle.msi_table_cells.specs.TableCells.{TableCells}
use Rattle.msi_database_schema.specs.System.{columns_name, validation_name, columns_columns, validation_columns}
use Rattle.msi_database_schema.specs.Schema.{schema_of}
use Rattle.msi_database_schema.proofs.SchemaLemmas.{describes_from}
use Rattle.msi_database_schema.proofs.OrderlessLemmas.{HasKinds}
use Rattle.msi_database_changes.specs.Database.{Database, table_at, rows_of}
use Rattle.msi_database_changes.proofs.describing.ShownTablesLemmas.{shown}
use Rattle.msi_database_changes.proofs.describing.DescribingLemmas.{describing, rows_at_is, validation_at}
use Rattle.msi_database_changes.proofs.soundness.RegularLemmas.{IsRegular}
use Rattle.msi_database_changes.proofs.describing.SchemaKeptLemmas.{each_row, rows_alike, Cells, kinds_by, shown_table}
use Rattle.msi_database_changes.proofs.describing.ChangedDescriptionLemmas.{unlisted_at}
use Rattle.msi_database_storage.specs.Streams.{Streams}
use Rattle.msi_database.proofs.soundness.DescribedLemmas.{Spelled, alike_there}

module _ (streams : Streams) (d : Database) (h : Spelled streams d) (regular : IsRegular d) (schema : schema_of (describing d) ≡ Some (shown d)) where
  cells_by : (o : Option TableCells) → table_at validation_name d ≡ o → Cells d
  cells_by (Some v) e =
      let t = shown_table d (describing d) schema columns_name columns_columns refl in record {
        columns = rows_of t.0;
        columns_are = rows_at_is columns_name d t.0 t.1;
        columns_fit = subst (λ (columns : List ColumnDef). AllByRecursion (FitsRow d.pool.long (types_of columns)) (rows_of t.0)) t.2 (each_row d.pool.long (types_of t.0.columns) t.0.rows (regular.fit columns_name t.0 t.1));
        validation = rows_of v;
        validation_are = validation_at d (ap is_some e) ∙ rows_at_is validation_name d v e;
        validation_fit = rows_alike d.pool.long v.columns validation_columns (rows_of v) (alike_there streams d h v e) (each_row d.pool.long (types_of v.columns) v.rows (regular.fit validation_name v e));
      }
  cells_by None e =
      let t = shown_table d (describing d) schema columns_name columns_columns refl in record {
        columns = rows_of t.0;
        columns_are = rows_at_is columns_name d t.0 t.1;
        columns_fit = subst (λ (columns : List ColumnDef). AllByRecursion (FitsRow d.pool.long (types_of columns)) (rows_of t.0)) t.2 (each_row d.pool.long (types_of t.0.columns) t.0.rows (regular.fit columns_name t.0 t.1));
        validation = d.unlisted_validation;
        validation_are = unlisted_at d (ap is_some e);
        validation_fit = regular.unlisted;
      }

  pub kinds_there : HasKinds (describing d)
  kinds_there = kinds_by d (cells_by (table_at validation_name d) refl) (describes_from (describing d) (shown d) schema).sound
